use Rattle.std.proofs.Common.{◌≡◌, ◌+◌, ◌++◌, length}
use Rattle.sb_types.specs.Runs.{newer_entries}
use Rattle.sb_budget.specs.Available.{ranked_from}
use Rattle.sb_budget.proofs.availability.offer_entries.Given as goal

abbrev pub invariant-loop-entry : goal.invariant-loop-entry
invariant-loop-entry l = record {
  made : l.offered.items ++ ranked_from l.rank l.owner l.fn.table l.number l.count l.entry-iterator ≡ l.fn.offered.items ++ ranked_from 0 l.owner l.fn.table l.number l.count (newer_entries l.number l.fn.table.entries);
  left : l.rank + length l.entry-iterator ≡ length (newer_entries l.number l.fn.table.entries);
}
