use Rattle.std.proofs.Common.{◌≡◌, ◌≤◌, List, IfOk, leb-true, true, ap, sym, subst, ◌∙◌}
use Rattle.std.specs.List.{AllByRecursion}
use Rattle.sb_holdings.specs.Held.{shown_of}
use Rattle.sb_holdings.specs.Nodes.{Node}
use Rattle.sb_types.specs.Runs.{Stands}
use Rattle.sb_watch.specs.declared.note.Note.{Note}
use Rattle.sb_watch.specs.Records.{Hub}
use Rattle.sb_watch.specs.Hubs.{AllNotes, answer_at, with_answer}
use Rattle.sb_watch.proofs.KeptNotes.{taken_keeps, given_holds}
use Rattle.sb_views.specs.Histories.{node_after}
use Rattle.sb_directory.specs.Notes.{is_held}
use Rattle.sb_directory.specs.ViewedNodes.{ViewedNode}
use Rattle.sb_directory.specs.Watching.{DirectoryWatch, SaysOf, IsWatched, reports, watches_after}
use Rattle.sb_directory.proofs.Keeping.{watches-locked}
use Rattle.sb_directory.proofs.Watching.{one-watched, all-after, answer-ok, answer-says}
use Rattle.sb_directory.proofs.viewed_node.ViewedNode.take_answer.Goals as goal

pub invariant_of-self : goal.invariant_of-self
invariant_of-self g c =
    let opening = g.S.NodeTag.opening in
    let inside = c.self.inside in
    let held = inside.core.node.held in
    let is = c.self.invariant in
    let watch = c.args.watch.now in
    let watches = inside.watches.items in
    let old : ViewedNode = record { core = inside.core; hub = inside.hub; watches = watches; history = inside.history; published = inside.views.published; news = inside.news } in
    let known = subst (λ (l : ViewedNode). Stands l.watches watch) (sym c.self.view_is) c.requires.known in
    let one = one-watched opening inside.history inside.hub watches watch is.0.watches known in
    let left : c.take-answer.new.self ≡ with_answer inside.hub watch.id = c.take-answer.ensures.left ∙ ap (with_answer inside.hub) c.id.ensures in
    let notes : AllNotes (is_held held) c.take-answer.new.self =
    subst (AllNotes (is_held held)) (sym left) (taken_keeps (λ (note : Note). is_held held note ≡ true) inside.hub watch.id is.0.notes) in
    let renewed : c.renew_unless_owed.new.watches.items ≡ watches_after (with_answer inside.hub watch.id) inside.history watch.id watches =
    c.renew_unless_owed.ensures.watches ∙ (λ i. watches_after (left i) (c.prefix.ensures i) watch.id watches) in
    let all = all-after opening inside.history inside.hub watches watch one is.0.watches in (
      watches-locked opening inside.views.queued inside.lacking old c.take-answer.new.self c.renew_unless_owed.new.watches.items is.0 notes
          (subst (λ (hub : Hub). AllByRecursion (IsWatched opening inside.history hub) c.renew_unless_owed.new.watches.items) (sym left)
          (subst (λ (ws : List DirectoryWatch). AllByRecursion (IsWatched opening inside.history (with_answer inside.hub watch.id)) ws) (sym renewed) all)),
      is.1,
      is.2,
      is.3,
      is.4,
    )

pub returns-clause-ok : goal.returns-clause-ok
returns-clause-ok g c =
    let opening = g.S.NodeTag.opening in
    let inside = c.self.inside in
    let watch = c.args.watch.now in
    let known = subst (λ (l : ViewedNode). Stands l.watches watch) (sym c.self.view_is) c.requires.known in
    let is = one-watched opening inside.history inside.hub inside.watches.items watch c.self.invariant.0.watches known in
    answer-ok opening inside.history inside.hub watch is c.take-answer.result (c.take-answer.ensures.answer ∙ ap (answer_at inside.hub) c.id.ensures)

pub returns-clause-says : goal.returns-clause-says
returns-clause-says g c =
    let opening = g.S.NodeTag.opening in
    let inside = c.self.inside in
    let watch = c.args.watch.now in
    let known = subst (λ (l : ViewedNode). Stands l.watches watch) (sym c.self.view_is) c.requires.known in
    let is = one-watched opening inside.history inside.hub inside.watches.items watch c.self.invariant.0.watches known in
    subst (λ (l : ViewedNode). IfOk c.take-answer.result (λ polled. SaysOf opening l.history watch (reports polled))) c.self.view_is
    (answer-says opening inside.history inside.hub watch is c.take-answer.result (c.take-answer.ensures.answer ∙ ap (answer_at inside.hub) c.id.ensures))

pub returns-clause-held : goal.returns-clause-held
returns-clause-held g c note given =
    let opening = g.S.NodeTag.opening in
    let inside = c.self.inside in
    let held = inside.core.node.held in
    let kept : is_held held note ≡ true =
    given_holds (λ (n : Note). is_held held n ≡ true) inside.hub c.args.watch.now.id note c.self.invariant.0.notes (sym (c.take-answer.ensures.answer ∙ ap (answer_at inside.hub) c.id.ensures) ∙ given) in
    let node : inside.core.node ≡ node_after opening c.args.self.now.history = c.self.invariant.0.node ∙ ap (λ (l : ViewedNode). node_after opening l.history) c.self.view_is in
    subst (λ (n : Node). note.version ≤ (shown_of n.held note.owner).held) node (leb-true note.version (shown_of held note.owner).held kept)
