use Rattle.sb_views.proofs.Owners.{row-none}
use Rattle.sb_views.proofs.node_view.NodeView.get.Goals as goal

pub returns-in-None : goal.returns-in-None
returns-in-None c = row-none c.args.self.now c.args.owner.now c.args.key.now c.in-None.ensures
