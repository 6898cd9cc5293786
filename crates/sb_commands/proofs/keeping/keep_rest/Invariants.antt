use Rattle.std.proofs.Common.{◌≡◌, ◌++◌, drop}
use Rattle.sb_commands.specs.Keeping.{unknown_rows}
use Rattle.sb_commands.proofs.keeping.keep_rest.Given as goal

abbrev pub invariant-loop-row : goal.invariant-loop-row
invariant-loop-row l = l.kept.items ++ unknown_rows l.reaches (drop l.row-index l.rows) ≡ l.fn.kept.items ++ unknown_rows l.reaches l.rows
