use Rattle.std.proofs.Common.{◌≡◌, ℕ, true, false, List, [], ◌∷◌, ◌++◌, sym, subst, ◌∙◌}
use Rattle.std.specs.List.{AllByRecursion}
use Rattle.sb_watch.specs.declared.note.Note.{Note}
use Rattle.sb_watch.specs.Records.{Hub}
use Rattle.sb_watch.specs.Hubs.{AllNotes, has_watch, with_watch}
use Rattle.sb_watch.proofs.KeptNotes.{added_keeps}
use Rattle.sb_directory.specs.Notes.{is_held}
use Rattle.sb_directory.specs.ViewedNodes.{ViewedNode}
use Rattle.sb_directory.specs.Watching.{DirectoryWatch, IsWatched}
use Rattle.sb_directory.proofs.Keeping.{watches-locked}
use Rattle.sb_directory.proofs.Watching.{given-id, added-watched}
use Rattle.sb_directory.proofs.viewed_node.ViewedNode.watch.Goals as goal

pub invariant_of-self-2 : goal.invariant_of-self-2
invariant_of-self-2 g c =
    let opening = g.S.NodeTag.opening in
    let inside = c.self.inside in
    let held = inside.core.node.held in
    let is = c.self.invariant in
    let filter = c.args.filter in
    let capacity = c.args.capacity in
    let old : ViewedNode = record { core = inside.core; hub = inside.hub; watches = inside.watches.items; history = inside.history; published = inside.views.published; news = inside.news } in
    let given = given-id inside.hub capacity c.in_ok-id.id c.in_ok-id.ensures.answer in
    let unused : has_watch inside.hub inside.hub.next ≡ false = subst (λ (id : ℕ). has_watch inside.hub id ≡ false) given.1 c.in_ok-id.ensures.unused in
    let added = c.in_ok-id.ensures.ok in
    let since : c.copy.result ≡ inside.history = c.copy.ensures ∙ c.prefix.ensures in
    let mine : DirectoryWatch = record { id = inside.hub.next; filter = filter; since = inside.history } in
    let same : c.copy-2.result ≡ mine = c.copy-2.ensures ∙ c.new-watch.ensures ∙ (λ i. record { id = given.1 i; filter = filter; since = since i }) in
    let watches : c.push_reserved.new.self.items ≡ inside.watches.items ++ mine ∷ [] = c.push_reserved.ensures.items ∙ (λ i. c.in_ok-reserve.ensures.items i ++ same i ∷ []) in
    let all = added-watched opening inside.history inside.hub filter capacity inside.watches.items unused given.0 is.0.watches in
    let notes : AllNotes (is_held held) c.add.new.self =
    subst (AllNotes (is_held held)) (sym added) (added_keeps (λ (note : Note). is_held held note ≡ true) inside.hub filter capacity is.0.notes) in (
      watches-locked opening inside.views.queued inside.lacking old c.add.new.self c.push_reserved.new.self.items is.0 notes
          (subst (λ (hub : Hub). AllByRecursion (IsWatched opening inside.history hub) c.push_reserved.new.self.items) (sym added)
          (subst (λ (ws : List DirectoryWatch). AllByRecursion (IsWatched opening inside.history (with_watch inside.hub filter capacity)) ws) (sym watches) all)),
      is.1,
      is.2,
      is.3,
      is.4,
    )
