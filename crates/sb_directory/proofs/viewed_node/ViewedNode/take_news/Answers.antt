use Rattle.sb_directory.specs.ViewedNodes.{ViewedNode}
use Rattle.sb_directory.proofs.Keeping.{news-locked}
use Rattle.sb_directory.proofs.viewed_node.ViewedNode.take_news.Goals as goal

pub invariant_of-self : goal.invariant_of-self
invariant_of-self g c =
    let inside = c.self.inside in
    let is = c.self.invariant in
    let old : ViewedNode = record { core = inside.core; hub = inside.hub; watches = inside.watches.items; history = inside.history; published = inside.views.published; news = inside.news } in (
      news-locked g.S.NodeTag.opening inside.views.queued inside.lacking old _ is.0,
      is.1,
      is.2,
      is.3,
      is.4,
    )
