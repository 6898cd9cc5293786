use Rattle.std.proofs.Common.{◌≡◌, ◌≤◌, ◌+◌, true, take}
use Rattle.std.specs.Prelude.{sum_by}
use Rattle.std.specs.List.{list_all}
use Rattle.sb_types.specs.declared.limits.TheConstants.{PAYLOAD_MOST}
use Rattle.sb_digest.specs.Lengths.{pair_length}
use Rattle.sb_digest.specs.Limits.{is_pair}
use Rattle.sb_digest.proofs.digest.length_within.Given as goal

abbrev pub invariant-loop-pair : goal.invariant-loop-pair
invariant-loop-pair l =
    (l.length ≡ l.head + sum_by pair_length (take l.pair-index l.pairs)) × (l.length ≤ PAYLOAD_MOST)
    × (list_all is_pair (take l.pair-index l.pairs) ≡ true)
