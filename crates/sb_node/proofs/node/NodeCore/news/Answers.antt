use Rattle.std.proofs.Common.{◌<◌, length, IfOk, List, subst}
use Rattle.std.specs.Prelude.{IsSorted}
use Rattle.std.proofs.lemmas.Result.{IfOk-weaker}
use Rattle.sb_types.specs.declared.settings.Order.TheVariants as orders
use Rattle.sb_types.specs.Records.{Block}
use Rattle.sb_budget.specs.Available.{available_for}
use Rattle.sb_budget.specs.Backlogs.{digest_since}
use Rattle.sb_breadth.specs.Breadth.{by_rank}
use Rattle.sb_depth.specs.Depth.{by_count}
use Rattle.sb_node.specs.Answers.{IsDelta}
use Rattle.sb_node.specs.Cores.{Core}
use Rattle.sb_node.proofs.Listed.{delta_by}
use Rattle.sb_node.proofs.node.NodeCore.news.Goals as goal

pub delta_of-requires-clause-owners : goal.delta_of-requires-clause-owners
delta_of-requires-clause-owners c = (c.self.inside.holdings, digest_since c.self.inside.holdings c.args.backlog.now, c.in_ok-owners.ensures.parts)

pub delta_of-requires-in-Depth-clause-owners : goal.delta_of-requires-in-Depth-clause-owners
delta_of-requires-in-Depth-clause-owners c = (c.self.inside.holdings, digest_since c.self.inside.holdings c.args.backlog.now, c.in_ok-owners.ensures.parts)

pub returns-in-Breadth-clause-delta : goal.returns-in-Breadth-clause-delta
returns-in-Breadth-clause-delta c =
    let held = c.self.inside.holdings in
    let asked = digest_since held c.args.backlog.now in
    subst (λ (k : Core). IfOk c.delta_of.result (IsDelta k.settings k.node.held (digest_since k.node.held c.args.backlog.now))) c.self.view_is
    (IfOk-weaker c.delta_of.result _ _
    (λ delta d. delta_by c.self.inside.settings c.budget.result orders.Breadth (IsSorted by_rank) held asked delta c.budget.ensures.budget c.in-Breadth.ensures.order (λ listed sorted. sorted) d)
    (c.delta_of.ensures.order held asked c.in_ok-owners.ensures.parts))

pub returns-in-Breadth-clause-goes : goal.returns-in-Breadth-clause-goes
returns-in-Breadth-clause-goes c =
    let held = c.self.inside.holdings in
    subst (λ (k : Core). IfOk c.delta_of.result (λ (delta : List Block). 0 < length (available_for k.node.held (digest_since k.node.held c.args.backlog.now)) → 0 < length delta)) c.self.view_is
    (c.delta_of.ensures.goes held (digest_since held c.args.backlog.now) c.in_ok-owners.ensures.parts)

pub returns-in-Depth-clause-delta : goal.returns-in-Depth-clause-delta
returns-in-Depth-clause-delta c =
    let held = c.self.inside.holdings in
    let asked = digest_since held c.args.backlog.now in
    subst (λ (k : Core). IfOk c.delta_of-in-Depth.result (IsDelta k.settings k.node.held (digest_since k.node.held c.args.backlog.now))) c.self.view_is
    (IfOk-weaker c.delta_of-in-Depth.result _ _
    (λ delta d. delta_by c.self.inside.settings c.budget-in-Depth.result orders.Depth (IsSorted by_count) held asked delta c.budget-in-Depth.ensures.budget c.in-Depth.ensures.order (λ listed sorted. sorted) d)
    (c.delta_of-in-Depth.ensures.order held asked c.in_ok-owners.ensures.parts))

pub returns-in-Depth-clause-goes : goal.returns-in-Depth-clause-goes
returns-in-Depth-clause-goes c =
    let held = c.self.inside.holdings in
    subst (λ (k : Core). IfOk c.delta_of-in-Depth.result (λ (delta : List Block). 0 < length (available_for k.node.held (digest_since k.node.held c.args.backlog.now)) → 0 < length delta)) c.self.view_is
    (c.delta_of-in-Depth.ensures.goes held (digest_since held c.args.backlog.now) c.in_ok-owners.ensures.parts)
