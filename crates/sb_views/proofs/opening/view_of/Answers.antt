use Rattle.std.proofs.Common.{rules}
use Rattle.sb_views.proofs.Beginning.{filling-goes_on}
use Rattle.sb_views.proofs.opening.view_of.Goals as goal

pub loop-owner-preserved : goal.loop-owner-preserved
loop-owner-preserved c = search (rules, filling-goes_on c.args.holdings.now c.loop-owner.view)
