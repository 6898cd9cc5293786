use Rattle.std.proofs.Common.{◌≡◌, Option, None, sym, ap, ◌∙◌, arith}
use Rattle.std.proofs.lemmas.Grind.{common_steps}
use Rattle.std.proofs.lemmas.Result.{err_from_is_err_and}
use Rattle.sb_holdings.specs.Nodes.{Node}
use Rattle.sb_views.specs.Histories.{node_after}
use Rattle.sb_directory.specs.Audits.{mark_due_after, RefusesMark}
use Rattle.sb_directory.specs.ViewedNodes.{ViewedNode}
use Rattle.sb_directory.proofs.Marking.{marked}
use Rattle.sb_directory.proofs.Refusing.{refused_mark, refused_delta}
use Rattle.sb_directory.proofs.viewed_node.ViewedNode.mark.Goals as goal

pub returns-in-Ok-clause-disputed : goal.returns-in-Ok-clause-disputed
returns-in-Ok-clause-disputed g c =
    let opening = g.S.NodeTag.opening in
    let inside = c.self.inside in
    let seen : record { core = inside.core; hub = inside.hub; watches = inside.watches.items; history = inside.history; published = inside.views.published; news = inside.news } ≡ c.note_call.new.self = c.self.view_is in
    let same : inside.core.node ≡ node_after opening c.note_call.new.self.history = c.self.invariant.0.node ∙ ap (λ (l : ViewedNode). node_after opening l.history) seen in
    marked opening inside.core.node c.note_call.new.self.history _ _ _ same c.in_ok-mark.ensures.mark c.in-Ok.ensures.ends c.in-Ok.ensures.last_call

-- there is no block to mark it by
pub returns-in_err-mark-clause-refused : goal.returns-in_err-mark-clause-refused
returns-in_err-mark-clause-refused g c =
    let p = err_from_is_err_and c.from_residual.result c.from_residual.ensures.1 in
    let opening = g.S.NodeTag.opening in
    let inside = c.self.inside in
    let seen : record { core = inside.core; hub = inside.hub; watches = inside.watches.items; history = inside.history; published = inside.views.published; news = inside.news } ≡ c.note_call.new.self = c.self.view_is in
    let same : inside.core.node ≡ node_after opening c.note_call.new.self.history = c.self.invariant.0.node ∙ ap (λ (l : ViewedNode). node_after opening l.history) seen in
    let none : inside.core.node.conflict ≡ None = grind (arith, common_steps) in
    let refuses : RefusesMark opening c.args.self.now.history c.in_err-mark.field-0.0 = λ other. (
    ap (λ (l : ViewedNode). mark_due_after opening l.history) (sym c.note_call.ensures.same)
    ∙ refused_mark opening c.note_call.new.self.history inside.core.node same none c.in_err-mark.field-0.0 c.in_err-mark.ensures.refused other) in
    rw (p.1, p.2) refuses

-- that block is not taken
pub returns-clause-refused : goal.returns-clause-refused
returns-clause-refused g c =
    let opening = g.S.NodeTag.opening in
    let inside = c.self.inside in
    let seen : record { core = inside.core; hub = inside.hub; watches = inside.watches.items; history = inside.history; published = inside.views.published; news = inside.news } ≡ c.note_call.new.self = c.self.view_is in
    let same : inside.core.node ≡ node_after opening c.note_call.new.self.history = c.self.invariant.0.node ∙ ap (λ (l : ViewedNode). node_after opening l.history) seen in
    let none : inside.core.node.conflict ≡ None = grind (arith, common_steps) in
    let refuses : RefusesMark opening c.args.self.now.history c.in-Err.fault = λ other. (
    ap (λ (l : ViewedNode). mark_due_after opening l.history) (sym c.note_call.ensures.same)
    ∙ refused_delta opening c.note_call.new.self.history inside.core.node same none c.in-Err.fault c.in_ok-mark.ensures.left c.in-Err.ensures.refused other) in
    refuses
