use Rattle.std.proofs.Common.{◌≡◌, drop, map}
use Rattle.sb_world.specs.Making as spec
use Rattle.sb_world.proofs.making.is_owned.Given as goal

abbrev pub invariant-loop-log : goal.invariant-loop-log
invariant-loop-log g l = spec.is_owned l.name (map g.L.WriteLog.seen (drop l.log-index l.logs)) ≡ spec.is_owned l.name (map g.L.WriteLog.seen l.logs)
