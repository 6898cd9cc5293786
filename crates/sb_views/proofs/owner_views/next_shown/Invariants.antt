use Rattle.std.proofs.Common.{◌≡◌, length}
use Rattle.sb_views.specs.NodeViews.{shown_owners}
use Rattle.sb_views.proofs.owner_views.next_shown.Given as goal

-- those that were passed are not shown
abbrev pub invariant-loop-owner : goal.invariant-loop-owner
invariant-loop-owner l = shown_owners l.fn.owners ≡ shown_owners l.owners

abbrev pub decreases-loop-owner : goal.decreases-loop-owner
decreases-loop-owner l = length l.owners
