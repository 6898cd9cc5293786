use Rattle.std.proofs.Common.{ap, ◌∙◌}
use Rattle.sb_views.specs.Changes.{change_of}
use Rattle.sb_views.specs.NodeViews.{OwnerView, view_of, owner_view_with}
use Rattle.sb_views.proofs.Owners.{added-ok, added-err}
use Rattle.sb_views.proofs.node_view.NodeView.add.Goals as goal

pub returns-clause-ok : goal.returns-clause-ok
returns-clause-ok c =
    added-ok c.args.owner.now c.args.self.now (view_of c.put_owner_view.new.owners.entries) (change_of c.args.change) c.change.new.self c.requires
    (c.in_ok-change.ensures.ok ∙ ap (λ (s : OwnerView). owner_view_with s (change_of c.args.change)) c.new-owner_view.ensures)
    c.put_owner_view.result (view_of c.self.inside.owners.entries) c.self.view_is c.put_owner_view.ensures.ok

pub returns-clause-err : goal.returns-clause-err
returns-clause-err c = added-err c.args.self.now c.self.inside.owners.entries c.put_owner_view.new.owners.entries c.put_owner_view.result c.self.view_is c.put_owner_view.ensures.err
