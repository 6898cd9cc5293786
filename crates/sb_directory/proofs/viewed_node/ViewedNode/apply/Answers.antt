use Rattle.std.proofs.Common.{◌≡◌, List, [], ◌∷◌, ◌++◌, length, sym, ap, subst, ◌∙◌, arith, length-append}
use Rattle.sb_holdings.specs.Held.{Held}
use Rattle.sb_holdings.specs.Nodes.{replay_node}
use Rattle.sb_holdings.specs.Plain.{IsHoldings}
use Rattle.sb_holdings.specs.Treats.{took_each}
use Rattle.sb_node.specs.Cores.{Core}
use Rattle.sb_views.specs.declared.event.Event.{Event}
use Rattle.sb_views.specs.declared.event.Event.TheVariants.{Applied}
use Rattle.sb_views.specs.Histories.{node_after}
use Rattle.sb_directory.specs.Lacking.{HasOwners, AreSince}
use Rattle.sb_directory.specs.Notes.{with_notes, notes_since, versions_of, notes_of_blocks}
use Rattle.sb_directory.specs.ViewedNodes.{ViewedNode, IsViewedNode}
use Rattle.sb_directory.proofs.Keeping.{noted, delta-there}
use Rattle.sb_directory.proofs.viewed_node.ViewedNode.apply.Goals as goal

pub invariant_of-self-2 : goal.invariant_of-self-2
invariant_of-self-2 g c =
    let opening = g.S.NodeTag.opening in
    let inside = c.self.inside in
    let queued = inside.views.queued in
    let node = inside.core.node in
    let is = c.self.invariant in
    let old : ViewedNode = record { core = inside.core; hub = inside.hub; watches = inside.watches.items; history = inside.history; published = inside.views.published; news = inside.news } in
    let blocks = c.args.delta.now in
    let ends = c.in_ok-ends.ends in
    let taken = c.in_ok-ends.ensures.ok in
    let more = c.add_owners.new.self in
    let new = replay_node node (took_each blocks ends) in
    let after : IsHoldings new.held = subst (λ (k : Core). IsHoldings k.node.held) taken c.in_ok-ends.ensures.holdings in
    let since : AreSince (node_after opening queued).held node.held more =
    subst (λ (h : Held). AreSince (node_after opening queued).held h more) c.holdings-2.ensures.held
    (c.in_ok-add_owners.ensures.since (node_after opening queued).held
    (subst (λ (h : Held). AreSince (node_after opening queued).held h inside.lacking) (sym c.holdings-2.ensures.held) is.0.since)) in
    let noting = noted opening queued inside.lacking more old is.0 since in
    let has : HasOwners more blocks = subst (HasOwners more) c.blocks-blocks.ensures.blocks c.in_ok-add_owners.ensures.owners in
    let longer : c.add.new.self ≡ inside.history ++ Applied blocks ends ∷ [] = c.add.ensures ∙ ap (λ (l : List Event). l ++ Applied blocks ends ∷ []) c.call_at.ensures.history in
    let versions : c.in_ok-versions.versions.items ≡ versions_of node.held blocks =
    c.in_ok-versions.ensures.versions ∙ (λ i. versions_of (c.holdings.ensures.held i) (c.blocks-blocks.ensures.blocks i)) in
    let held : c.holdings-4.result.now ≡ new.held = c.holdings-4.ensures.held ∙ ap (λ (k : Core). k.node.held) taken in
    let seen : c.push_notes_since.new.hub ≡ with_notes inside.hub (notes_of_blocks blocks node.held new.held) =
    c.push_notes_since.ensures ∙ (λ i. with_notes inside.hub (notes_since (versions i) (held i))) in (
      delta-there opening queued more old noting c.holdings.ensures.holdings blocks ends c.in_ok-ends.ensures.delta c.in_ok-ends.ensures.ends after has
          c.apply.new.self c.add.new.self c.push_notes_since.new.hub inside.views.published _ taken longer seen,
      omega (arith, c.count.ensures.total, is.1, ap (λ (l : List Event). length l) longer, length-append inside.history (Applied blocks ends ∷ [])),
      ap (λ (k : Core). k.settings) taken ∙ is.2,
      is.3,
      is.4,
    )

-- owners are noted as lacking, whether all could be or not
pub invariant_of-self-in_err-add_owners : goal.invariant_of-self-in_err-add_owners
invariant_of-self-in_err-add_owners g c =
    let opening = g.S.NodeTag.opening in
    let inside = c.self.inside in
    let queued = inside.views.queued in
    let more = c.add_owners.new.self in
    let is = c.self.invariant in
    let history = c.call_at.ensures.history in
    let old : ViewedNode = record { core = inside.core; hub = inside.hub; watches = inside.watches.items; history = inside.history; published = inside.views.published; news = inside.news } in (
      subst (λ (l : List Event). IsViewedNode opening queued more (record { core = inside.core; hub = inside.hub; watches = inside.watches.items; history = l; published = inside.views.published; news = inside.news })) (sym history)
          (noted opening queued inside.lacking more old is.0
          (subst (λ (h : Held). AreSince (node_after opening queued).held h more) c.holdings-2.ensures.held
          (c.add_owners.ensures.since (node_after opening queued).held
          (subst (λ (h : Held). AreSince (node_after opening queued).held h inside.lacking) (sym c.holdings-2.ensures.held) is.0.since)))),
      is.1 ∙ ap (λ (l : List Event). length l) (sym history),
      is.2,
      is.3,
      is.4,
    )

pub invariant_of-self-in_err-ends : goal.invariant_of-self-in_err-ends
invariant_of-self-in_err-ends g c =
    let opening = g.S.NodeTag.opening in
    let inside = c.self.inside in
    let queued = inside.views.queued in
    let more = c.add_owners.new.self in
    let is = c.self.invariant in
    let same = c.in_err-ends.ensures.err in
    let history = c.call_at.ensures.history in
    let old : ViewedNode = record { core = inside.core; hub = inside.hub; watches = inside.watches.items; history = inside.history; published = inside.views.published; news = inside.news } in (
      subst (λ (l : ViewedNode). IsViewedNode opening queued more l) (λ i. record { core = sym same i; hub = inside.hub; watches = inside.watches.items; history = sym history i; published = inside.views.published; news = inside.news })
          (noted opening queued inside.lacking more old is.0
          (subst (λ (h : Held). AreSince (node_after opening queued).held h more) c.holdings-2.ensures.held
          (c.in_ok-add_owners.ensures.since (node_after opening queued).held
          (subst (λ (h : Held). AreSince (node_after opening queued).held h inside.lacking) (sym c.holdings-2.ensures.held) is.0.since)))),
      is.1 ∙ ap (λ (l : List Event). length l) (sym history),
      ap (λ (k : Core). k.settings) same ∙ is.2,
      is.3,
      is.4,
    )
