use Rattle.std.proofs.Common.{◌≡◌, true, List, sym, subst}
use Rattle.std.specs.List.{AllByRecursion}
use Rattle.sb_watch.specs.declared.note.Note.{Note}
use Rattle.sb_watch.specs.Records.{Hub}
use Rattle.sb_watch.specs.Hubs.{AllNotes}
use Rattle.sb_watch.proofs.KeptNotes.{dropped_keeps}
use Rattle.sb_directory.specs.Notes.{is_held}
use Rattle.sb_directory.specs.ViewedNodes.{ViewedNode}
use Rattle.sb_directory.specs.Watching.{DirectoryWatch, IsWatched, others}
use Rattle.sb_directory.proofs.Keeping.{watches-locked}
use Rattle.sb_directory.proofs.Watching.{dropped-watched}
use Rattle.sb_directory.proofs.viewed_node.ViewedNode.unwatch.Goals as goal

pub invariant_of-self : goal.invariant_of-self
invariant_of-self g c =
    let opening = g.S.NodeTag.opening in
    let inside = c.self.inside in
    let held = inside.core.node.held in
    let is = c.self.invariant in
    let old : ViewedNode = record { core = inside.core; hub = inside.hub; watches = inside.watches.items; history = inside.history; published = inside.views.published; news = inside.news } in
    let all = dropped-watched opening inside.history inside.hub c.args.id inside.watches.items is.0.watches in (
      watches-locked opening inside.views.queued inside.lacking old c.drop_watch.new.self c.leave_out.new.watches.items is.0
          (subst (AllNotes (is_held held)) (sym c.drop_watch.ensures.left) (dropped_keeps (λ (note : Note). is_held held note ≡ true) inside.hub c.args.id is.0.notes))
          (subst (λ (ws : List DirectoryWatch). AllByRecursion (IsWatched opening inside.history c.drop_watch.new.self) ws) (sym c.leave_out.ensures)
          (subst (λ (hub : Hub). AllByRecursion (IsWatched opening inside.history hub) (others c.args.id inside.watches.items)) (sym c.drop_watch.ensures.left) all)),
      is.1,
      is.2,
      is.3,
      is.4,
    )
