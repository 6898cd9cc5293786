use Rattle.std.proofs.Common.{◌≡◌, ap, ◌∙◌}
use Rattle.sb_views.specs.Publishing.{Views}
use Rattle.sb_directory.specs.ViewedNodes.{ViewedNode}
use Rattle.sb_directory.proofs.Keeping.{published-there}
use Rattle.sb_directory.proofs.viewed_node.ViewedNode.publish.Goals as goal

pub invariant_of-self-2 : goal.invariant_of-self-2
invariant_of-self-2 g c =
    let inside = c.self.inside in
    let is = c.self.invariant in
    let views = c.catch_up.new.views in
    let old : ViewedNode = record { core = inside.core; hub = inside.hub; watches = inside.watches.items; history = inside.history; published = inside.views.published; news = inside.news } in
    let all : views.queued ≡ inside.history = ap (λ (v : Views). v.queued) c.if-not-catch_up.ensures.queued ∙ c.prefix-history.ensures in (
      published-there g.S.NodeTag.opening inside.views.queued inside.lacking c.catch_up.new.lacking old views c.publish.new.self c.publish.result is.0 all
          c.if-not-catch_up.ensures.grown c.if-not-catch_up.ensures.since c.publish.ensures.end,
      is.1,
      is.2,
      is.3,
      is.4,
    )
