use Rattle.std.proofs.Common.{◌≡◌, ℕ, ◌<◌, ◌^◌, List, [], ◌∷◌, ◌++◌, length, sym, ap, subst, ◌∙◌, arith, length-append}
use Rattle.sb_holdings.specs.Held.{shown_of}
use Rattle.sb_node.specs.Cores.{Core}
use Rattle.sb_views.specs.declared.event.Event.{Event}
use Rattle.sb_views.specs.declared.event.Event.TheVariants.{TookOwn}
use Rattle.sb_directory.specs.Notes.{note_of, with_notes}
use Rattle.sb_directory.specs.ViewedNodes.{ViewedNode, IsViewedNode}
use Rattle.sb_directory.proofs.Keeping.{since-read, added-locked, added-there, own-there}
use Rattle.sb_directory.proofs.viewed_node.ViewedNode.take_own.Goals as goal

pub invariant_of-self-2 : goal.invariant_of-self-2
invariant_of-self-2 g c =
    let opening = g.S.NodeTag.opening in
    let inside = c.self.inside in
    let queued = inside.views.queued in
    let is = c.self.invariant in
    let old : ViewedNode = record { core = inside.core; hub = inside.hub; watches = inside.watches.items; history = inside.history; published = inside.views.published; news = inside.news } in
    let node = inside.core.node in
    let e = c.args.committed.now.entry in
    let taken = c.in_ok-take_own.ensures.ok in
    let few : (shown_of node.held node.held.me).held < 2 ^ 64 =
    subst (λ (owner : List ℕ). (shown_of node.held owner).held < 2 ^ 64) c.name.ensures.name (omega (arith, c.upto.ensures.version, c.upto.type_inv)) in
    let longer : c.add-2.new.self ≡ inside.history ++ TookOwn e ∷ [] = c.add-2.ensures ∙ (λ i. c.call_at.ensures.history i ++ TookOwn (c.entry-entry.ensures.entry i) ∷ []) in
    let seen : c.push_note.new.hub ≡ with_notes inside.hub (note_of node.held.me e ∷ []) =
    c.push_note.ensures ∙ (λ i. with_notes inside.hub (note_of (c.name.ensures.name i) (c.entry-entry.ensures.entry i) ∷ [])) in
    let noted = added-locked opening queued inside.lacking c.add.new.self old c.name.result.now _ is.0 c.in_ok-add.ensures.ok (since-read _ _ _ _ _ c.upto.ensures.version c.floor.ensures.floor c.holdings.ensures.held) in
    let has = added-there inside.lacking c.add.new.self c.name.result.now node.held.me _ c.in_ok-add.ensures.ok c.name.ensures.name in (
      own-there opening queued c.add.new.self old noted c.refusal.ensures.holdings e c.in_ok-take_own.ensures.next c.entry-entry.ensures.limits few has
          c.take_own.new.self c.add-2.new.self c.push_note.new.hub inside.views.published _ taken longer seen,
      omega (arith, c.count.ensures.total, is.1, ap (λ (l : List Event). length l) longer, length-append inside.history (TookOwn e ∷ [])),
      ap (λ (k : Core). k.settings) taken ∙ is.2,
      is.3,
      is.4,
    )

-- the write is not entered; what is lacked stays noted
pub invariant_of-self-in_err-take_own : goal.invariant_of-self-in_err-take_own
invariant_of-self-in_err-take_own g c =
    let opening = g.S.NodeTag.opening in
    let inside = c.self.inside in
    let queued = inside.views.queued in
    let is = c.self.invariant in
    let old : ViewedNode = record { core = inside.core; hub = inside.hub; watches = inside.watches.items; history = inside.history; published = inside.views.published; news = inside.news } in
    let noted = added-locked opening queued inside.lacking c.add.new.self old c.name.result.now _ is.0 c.in_ok-add.ensures.ok (since-read _ _ _ _ _ c.upto.ensures.version c.floor.ensures.floor c.holdings.ensures.held) in
    let same = c.in_err-take_own.ensures.err in
    let history = c.call_at.ensures.history in (
      subst (λ (l : ViewedNode). IsViewedNode opening queued c.add.new.self l) (λ i. record { core = sym same i; hub = inside.hub; watches = inside.watches.items; history = sym history i; published = inside.views.published; news = inside.news }) noted,
      is.1 ∙ ap (λ (l : List Event). length l) (sym history),
      ap (λ (k : Core). k.settings) same ∙ is.2,
      is.3,
      is.4,
    )
