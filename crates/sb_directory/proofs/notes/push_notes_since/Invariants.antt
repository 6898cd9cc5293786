use Rattle.std.specs.Vec.Iter.{into_iter_items}
use Rattle.sb_directory.proofs.Noting.{IsTellingAll}
use Rattle.sb_directory.proofs.notes.push_notes_since.Given as goal

abbrev pub invariant-loop-owner : goal.invariant-loop-owner
invariant-loop-owner l = IsTellingAll l.holdings l.initial.hub l.fn.versions.items l.hub (into_iter_items l.owner-iterator)
