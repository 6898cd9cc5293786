use Rattle.std.proofs.Common.{IfOk, ap, sym, subst, ◌∙◌}
use Rattle.sb_types.specs.Runs.{Stands}
use Rattle.sb_watch.specs.Hubs.{has_note_at}
use Rattle.sb_directory.specs.ViewedNodes.{ViewedNode}
use Rattle.sb_directory.specs.Watching.{SaysOf}
use Rattle.sb_directory.proofs.Watching.{one-watched, owed-ok, owed-says}
use Rattle.sb_directory.proofs.viewed_node.ViewedNode.owes.Goals as goal

pub returns-clause-ok : goal.returns-clause-ok
returns-clause-ok g c =
    let opening = g.S.NodeTag.opening in
    let inside = c.self.inside in
    let watch = c.args.watch.now in
    let known = subst (λ (l : ViewedNode). Stands l.watches watch) (sym c.self.view_is) c.requires.known in
    let is = one-watched opening inside.history inside.hub inside.watches.items watch c.self.invariant.0.watches known in
    owed-ok opening inside.history inside.hub watch is c.has_note.result (c.has_note.ensures.answer ∙ ap (has_note_at inside.hub) c.id.ensures)

pub returns-clause-says : goal.returns-clause-says
returns-clause-says g c =
    let opening = g.S.NodeTag.opening in
    let inside = c.self.inside in
    let watch = c.args.watch.now in
    let known = subst (λ (l : ViewedNode). Stands l.watches watch) (sym c.self.view_is) c.requires.known in
    let is = one-watched opening inside.history inside.hub inside.watches.items watch c.self.invariant.0.watches known in
    subst (λ (l : ViewedNode). IfOk c.has_note.result (SaysOf opening l.history watch)) c.self.view_is
    (owed-says opening inside.history inside.hub watch is c.has_note.result (c.has_note.ensures.answer ∙ ap (has_note_at inside.hub) c.id.ensures))
