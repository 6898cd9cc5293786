use Rattle.std.proofs.Common.{◌≡◌, ◌++◌, not, filter, map, take}
use Rattle.sb_handlers.specs.Deferring.{has_block, offer_after, deferred}
use Rattle.sb_handlers.proofs.vain_offers.offers_after.Given as goal

abbrev pub invariant-loop-offer : goal.invariant-loop-offer
invariant-loop-offer l = l.all.items ≡ map (deferred l.theirs) (filter (λ o. not (has_block l.blocks o.owner)) (take l.offer-index l.offers))

abbrev pub invariant-loop-block : goal.invariant-loop-block
invariant-loop-block l =
    l.all.items ≡ map (deferred l.theirs) (filter (λ o. not (has_block l.blocks o.owner)) l.offers)
    ++ map (offer_after l.offers l.theirs) (take l.block-index l.blocks)
