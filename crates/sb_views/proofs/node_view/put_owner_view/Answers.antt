use Rattle.sb_views.proofs.ByText.{with_inserted}
use Rattle.sb_views.proofs.node_view.put_owner_view.Goals as goal

pub returns-in-Ok-clause-ok : goal.returns-in-Ok-clause-ok
returns-in-Ok-clause-ok c =
    with_inserted c.args.owners.now.entries c.insert.new.self.entries c.args.owner c.args.owner_view c.requires c.insert.ensures.ordered c.in-Ok.ensures.updates.0
