use Rattle.sb_types.specs.Runs.{newer_entries}
use Rattle.sb_views.proofs.Beginning.{IsEntering}
use Rattle.sb_views.proofs.opening.enter_all.Given as goal

abbrev pub invariant-loop-entry : goal.invariant-loop-entry
invariant-loop-entry l = IsEntering l.owner l.initial.view (newer_entries 0 l.table.entries) l.view l.last l.entry-iterator
