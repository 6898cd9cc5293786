use Rattle.std.proofs.Common.{◌≡◌, ◌++◌, []}
use Rattle.std.specs.List.{flat_map}
use Rattle.sb_table.specs.Order.{by_key, entries_with_prefix}
use Rattle.sb_lines.specs.Printed.{entry_line}
use Rattle.sb_lines.proofs.log_lines.lines_of.Given as goal

abbrev pub invariant-loop-entry : goal.invariant-loop-entry
invariant-loop-entry l =
    l.out.items ++ flat_map (entry_line l.fn.owner) l.entry-iterator
    ≡ flat_map (entry_line l.fn.owner) (by_key (entries_with_prefix [] l.fn.table.entries))
