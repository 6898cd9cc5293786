use Rattle.std.proofs.Common.{◌≡◌, drop, map}
use Rattle.sb_world.specs.Making as spec
use Rattle.sb_world.proofs.making.are_of.Given as goal

abbrev pub invariant-loop-log : goal.invariant-loop-log
invariant-loop-log g l = spec.are_of l.cluster (map g.L.WriteLog.seen (drop l.log-index l.logs)) ≡ spec.are_of l.cluster (map g.L.WriteLog.seen l.logs)
