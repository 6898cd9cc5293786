use Rattle.sb_types.specs.Runs.{newer_entries}
use Rattle.sb_directory.proofs.Noting.{IsTelling}
use Rattle.sb_directory.proofs.notes.push_notes_above.Given as goal

abbrev pub invariant-loop-entry : goal.invariant-loop-entry
invariant-loop-entry l = IsTelling l.owner l.initial.hub (newer_entries l.version l.table.entries) l.hub l.entry-iterator
