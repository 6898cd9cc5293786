use Rattle.std.proofs.Common.{◌++◌}
use Rattle.sb_types.specs.Runs.{live_entries, newer_entries}
use Rattle.sb_table.specs.Plain.{plain_table}
use Rattle.sb_table.proofs.Copying.{IsCopying}
use Rattle.sb_table.proofs.swap.add_staged.Given as goal

abbrev pub invariant-loop-entry : goal.invariant-loop-entry
invariant-loop-entry l =
    IsCopying (plain_table (l.initial.into.entries ++ live_entries l.floor (newer_entries l.upto l.staged.entries))) l.into (live_entries l.floor l.entry-iterator)
