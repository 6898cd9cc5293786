use Rattle.sb_types.specs.Runs.{newer_entries}
use Rattle.sb_directory.proofs.Batches.{IsPushing}
use Rattle.sb_directory.proofs.lacked.push_entries.Given as goal

abbrev pub invariant-loop-entry : goal.invariant-loop-entry
invariant-loop-entry l = IsPushing l.owner l.initial.batch l.version (newer_entries l.version l.table.entries) l.batch l.last l.entry-iterator
