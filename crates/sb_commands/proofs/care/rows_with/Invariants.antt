use Rattle.std.proofs.Common.{◌≡◌, ◌++◌, drop}
use Rattle.sb_commands.specs.Care.{rows_with}
use Rattle.sb_commands.proofs.care.rows_with.Given as goal

abbrev pub invariant-loop-row : goal.invariant-loop-row
invariant-loop-row l = l.kept.items ++ rows_with l.now l.rest (drop l.row-index l.found) ≡ rows_with l.now l.fn.held l.found
