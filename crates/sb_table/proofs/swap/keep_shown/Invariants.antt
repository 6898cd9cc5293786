use Rattle.std.proofs.Common.{◌++◌}
use Rattle.sb_types.specs.Runs.{live_entries, entries_with_keys, entries_up_to}
use Rattle.sb_table.specs.Plain.{plain_table}
use Rattle.sb_table.proofs.Copying.{IsCopying}
use Rattle.sb_table.proofs.swap.keep_shown.Given as goal

abbrev pub invariant-loop-entry : goal.invariant-loop-entry
invariant-loop-entry l =
    IsCopying (plain_table (l.initial.into.entries ++ live_entries l.floor (entries_with_keys (entries_up_to l.upto l.staged.entries) l.shown.entries))) l.into
    (live_entries l.floor (entries_with_keys (entries_up_to l.upto l.staged.entries) l.entry-iterator))
