use Rattle.std.proofs.Common.{◌≡◌, ◌++◌, not, filter, map, take}
use Rattle.sb_digest.specs.Digests.{plain_pair}
use Rattle.sb_handlers.specs.Deferring.{most, is_among}
use Rattle.sb_handlers.proofs.vain_offers.pairs_with_held.Given as goal

abbrev pub invariant-loop-pair : goal.invariant-loop-pair
invariant-loop-pair l = l.all.items ≡ filter (λ p. not (is_among l.owners p.owner)) (take l.pair-index l.pairs)

abbrev pub invariant-loop-owner : goal.invariant-loop-owner
invariant-loop-owner l =
    l.all.items ≡ filter (λ p. not (is_among l.owners p.owner)) l.pairs ++ map (λ owner. plain_pair owner most) (take l.owner-index l.owners)
