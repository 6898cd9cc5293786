use Rattle.std.proofs.Common.{◌≡◌}
use Rattle.sb_run.specs.News.{with_each, joined}
use Rattle.sb_run.proofs.backlogs.joined.Given as goal

abbrev pub invariant-loop-owner : goal.invariant-loop-owner
invariant-loop-owner l = with_each l.all l.owner-iterator ≡ joined l.fn.first l.second
