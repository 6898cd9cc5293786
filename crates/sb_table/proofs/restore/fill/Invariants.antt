use Rattle.std.specs.Vec.Iter.{into_iter_items}
use Rattle.sb_table.specs.Plain.{plain_table}
use Rattle.sb_table.proofs.Copying.{IsCopying}
use Rattle.sb_table.proofs.restore.fill.Given as goal

abbrev pub invariant-loop-entry : goal.invariant-loop-entry
invariant-loop-entry l = IsCopying (plain_table l.fn.entries.items) l.table (into_iter_items l.entry-iterator)
