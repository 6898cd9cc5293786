use Rattle.std.proofs.Common.{◌≡◌, take}
use Rattle.sb_listing.specs.Printed.{printed_lines}
use Rattle.sb_listing.proofs.printing.lines_of.Given as goal

abbrev pub invariant-loop-change : goal.invariant-loop-change
invariant-loop-change l = l.out.items ≡ printed_lines (take l.change-index l.changes)
