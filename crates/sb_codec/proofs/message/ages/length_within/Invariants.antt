use Rattle.std.proofs.Common.{◌≡◌, ◌≤◌, true, take}
use Rattle.std.specs.List.{list_all}
use Rattle.sb_types.specs.declared.limits.TheConstants.{PAYLOAD_MOST}
use Rattle.sb_codec.specs.Lengths.{ages_length}
use Rattle.sb_codec.specs.Limits.{is_age}
use Rattle.sb_codec.proofs.message.ages.length_within.Given as goal

abbrev pub invariant-loop-age : goal.invariant-loop-age
invariant-loop-age l =
    (l.length ≡ ages_length (take l.age-index l.ages)) × (l.length ≤ PAYLOAD_MOST)
    × (list_all is_age (take l.age-index l.ages) ≡ true)
