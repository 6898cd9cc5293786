use Rattle.sb_views.proofs.Beginning.{IsFilling}
use Rattle.sb_views.proofs.opening.view_of.Given as goal

abbrev pub invariant-loop-owner : goal.invariant-loop-owner
invariant-loop-owner l = IsFilling l.holdings l.view l.owner-iterator
