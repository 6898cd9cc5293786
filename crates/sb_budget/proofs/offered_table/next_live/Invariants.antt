use Rattle.std.proofs.Common.{◌≡◌, length}
use Rattle.sb_types.specs.Runs.{live_entries}
use Rattle.sb_budget.proofs.offered_table.next_live.Given as goal

-- those that were passed are not live
abbrev pub invariant-loop-entry : goal.invariant-loop-entry
invariant-loop-entry l = live_entries l.floor l.fn.entries ≡ live_entries l.floor l.entries

abbrev pub decreases-loop-entry : goal.decreases-loop-entry
decreases-loop-entry l = length l.entries
