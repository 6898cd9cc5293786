use Rattle.std.proofs.Common.{◌≡◌, map, take, drop, ◌++◌}
use Rattle.sb_commands.specs.Keeping.{unshown}
use Rattle.sb_commands.proofs.reaches.forget_shown.Given as goal

abbrev pub invariant-loop-reach : goal.invariant-loop-reach
invariant-loop-reach l = l.reaches ≡ map unshown (take l.reach-index l.initial.reaches) ++ drop l.reach-index l.initial.reaches
