use Rattle.std.proofs.Common.{◌≡◌, [], drop}
use Rattle.sb_codec.specs.Limits.{are_ages_above}
use Rattle.sb_codec.proofs.message.ages.do_owners_ascend.Given as goal

abbrev pub invariant-loop-age : goal.invariant-loop-age
invariant-loop-age l = are_ages_above l.last (drop l.age-index l.ages) ≡ are_ages_above [] l.ages
