use Rattle.sb_table.proofs.Copying.{IsCopying}
use Rattle.sb_table.proofs.entries.Entries.copy.Given as goal

abbrev pub invariant-loop-entry : goal.invariant-loop-entry
invariant-loop-entry l = IsCopying l.self l.copy l.entry-iterator
