use Rattle.std.proofs.Common.{◌≡◌, [], drop}
use Rattle.sb_digest.specs.Limits.{are_pairs_above}
use Rattle.sb_digest.proofs.digest.are_owners_ascending.Given as goal

abbrev pub invariant-loop-pair : goal.invariant-loop-pair
invariant-loop-pair l = are_pairs_above l.last (drop l.pair-index l.pairs) ≡ are_pairs_above [] l.pairs
