use Rattle.std.proofs.Common.{◌≡◌, take}
use Rattle.sb_query.specs.Printed.{printed_rows}
use Rattle.sb_query.proofs.printing.lines_of.Given as goal

abbrev pub invariant-loop-row : goal.invariant-loop-row
invariant-loop-row l = l.out.items ≡ printed_rows (take l.row-index l.rows)
