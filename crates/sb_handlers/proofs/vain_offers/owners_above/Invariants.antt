use Rattle.std.proofs.Common.{◌≡◌, take}
use Rattle.sb_handlers.specs.Deferring.{owners_above}
use Rattle.sb_handlers.proofs.vain_offers.owners_above.Given as goal

abbrev pub invariant-loop-offer : goal.invariant-loop-offer
invariant-loop-offer l = l.owners.items ≡ owners_above (take l.offer-index l.offers) l.theirs l.times
