use Rattle.std.proofs.Common.{◌≡◌}
use Rattle.std.specs.List.{slice_get}
use Rattle.sb_node.specs.Purging.{removals}
use Rattle.sb_node.proofs.purging.removal_at.Given as goal

-- the removal is still to come, so many removals further on
abbrev pub invariant-loop-entry : goal.invariant-loop-entry
invariant-loop-entry l = slice_get (removals l.entry-iterator) l.left ≡ slice_get (removals l.table.entries) l.older
