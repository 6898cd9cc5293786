use Rattle.std.proofs.Common.{◌≡◌, map, take, drop, ◌++◌}
use Rattle.sb_commands.specs.Keeping.{raised}
use Rattle.sb_commands.proofs.reaches.raise_all.Given as goal

abbrev pub invariant-loop-reach : goal.invariant-loop-reach
invariant-loop-reach l = l.reaches ≡ map (raised l.found) (take l.reach-index l.initial.reaches) ++ drop l.reach-index l.initial.reaches
