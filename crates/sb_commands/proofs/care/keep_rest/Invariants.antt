use Rattle.std.proofs.Common.{◌≡◌, ◌++◌, drop}
use Rattle.sb_commands.specs.Care.{missing_rows}
use Rattle.sb_commands.proofs.care.keep_rest.Given as goal

abbrev pub invariant-loop-one : goal.invariant-loop-one
invariant-loop-one l = l.kept.items ++ missing_rows l.now (drop l.one-index l.held) ≡ l.fn.kept.items ++ missing_rows l.now l.held
