use Rattle.std.proofs.Common.{◌≡◌, ◌++◌, map}
use Rattle.std.specs.FinMap.{entries}
use Rattle.sb_views.specs.NodeViews.{shown_owners}
use Rattle.sb_run.specs.HttpReads.{held_owner}
use Rattle.sb_run.proofs.http_threads.owners_in.Given as goal

abbrev pub invariant-loop-owner : goal.invariant-loop-owner
invariant-loop-owner l = l.owners.items ++ map (held_owner l.ages) l.owner-iterator ≡ map (held_owner l.ages) (shown_owners (entries l.snapshot))
