use Rattle.std.proofs.Common.{sym, ◌∙◌}
use Rattle.sb_views.proofs.Owners.{owner_view-found}
use Rattle.sb_views.proofs.node_view.NodeView.owner_view.Goals as goal

pub returns : goal.returns
returns c = c.get.ensures.value ∙ sym (owner_view-found c.args.owner.now c.self.inside.owners.entries c.self.invariant c.args.self.now c.self.view_is)
