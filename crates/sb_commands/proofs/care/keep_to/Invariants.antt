use Rattle.std.proofs.Common.{◌≡◌, List, ◌++◌, length}
use Rattle.sb_commands.specs.declared.care.KeptRow.{KeptRow}
use Rattle.sb_commands.specs.Care.{rows_past_row}
use Rattle.sb_commands.proofs.care.keep_to.Given as goal

abbrev pub invariant-loop-one : goal.invariant-loop-one
invariant-loop-one l = (next : List KeptRow → List KeptRow) → l.kept.items ++ rows_past_row l.now l.row next l.rest ≡ l.fn.kept.items ++ rows_past_row l.now l.row next l.fn.held

abbrev pub decreases-loop-one : goal.decreases-loop-one
decreases-loop-one l = length l.rest
