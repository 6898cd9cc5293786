use Rattle.std.proofs.Common.{◌≡◌, length, map}
use Rattle.sb_world.specs.Making as spec
use Rattle.sb_world.proofs.making.has_twins.Given as goal

abbrev pub invariant-loop-log : goal.invariant-loop-log
invariant-loop-log g l = spec.has_twins (map g.L.WriteLog.seen l.rest) ≡ spec.has_twins (map g.L.WriteLog.seen l.fn.logs)

abbrev pub decreases-loop-log : goal.decreases-loop-log
decreases-loop-log g l = length l.rest
