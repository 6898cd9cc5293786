use Rattle.std.proofs.Common.{◌≡◌, ◌++◌, drop}
use Rattle.sb_commands.specs.Keeping.{rows_after}
use Rattle.sb_commands.proofs.keeping.merged_rows.Given as goal

abbrev pub invariant-loop-row : goal.invariant-loop-row
invariant-loop-row l = l.kept.items ++ rows_after l.reaches l.rest (drop l.row-index l.found) ≡ rows_after l.reaches l.fn.held l.found
