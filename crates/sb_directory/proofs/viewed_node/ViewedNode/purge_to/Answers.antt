use Rattle.std.proofs.Common.{◌≡◌, List, [], ◌∷◌, ◌++◌, length, sym, ap, subst, ◌∙◌, arith, length-append}
use Rattle.sb_node.specs.Cores.{Core}
use Rattle.sb_views.specs.declared.event.Event.{Event}
use Rattle.sb_views.specs.declared.event.Event.TheVariants.{Purged}
use Rattle.sb_directory.specs.ViewedNodes.{ViewedNode, IsViewedNode}
use Rattle.sb_directory.proofs.Keeping.{since-read, added-locked, added-there, purge-there}
use Rattle.sb_directory.proofs.viewed_node.ViewedNode.purge_to.Goals as goal

pub invariant_of-self-2 : goal.invariant_of-self-2
invariant_of-self-2 g c =
    let opening = g.S.NodeTag.opening in
    let inside = c.self.inside in
    let queued = inside.views.queued in
    let is = c.self.invariant in
    let old : ViewedNode = record { core = inside.core; hub = inside.hub; watches = inside.watches.items; history = inside.history; published = inside.views.published; news = inside.news } in
    let node = inside.core.node in
    let purged = c.in_ok-purge.ensures.ok in
    let longer : c.add-2.new.self ≡ inside.history ++ Purged c.args.floor ∷ [] = c.add-2.ensures ∙ (λ i. c.call_at.ensures.history i ++ Purged c.args.floor ∷ []) in
    let noted = added-locked opening queued inside.lacking c.add.new.self old c.name.result.now _ is.0 c.in_ok-add.ensures.ok (since-read _ _ _ _ _ c.upto-upto.ensures.version c.floor-lowest.ensures.floor c.holdings.ensures.held) in
    let has = added-there inside.lacking c.add.new.self c.name.result.now node.held.me _ c.in_ok-add.ensures.ok c.name.ensures.name in (
      purge-there opening queued c.add.new.self old noted c.name.ensures.holdings c.args.floor has c.purge.new.self c.add-2.new.self inside.views.published _ purged longer,
      omega (arith, c.count.ensures.total, is.1, ap (λ (l : List Event). length l) longer, length-append inside.history (Purged c.args.floor ∷ [])),
      ap (λ (k : Core). k.settings) purged ∙ is.2,
      is.3,
      is.4,
    )

-- the table is not purged; what is lacked stays noted
pub invariant_of-self-in_err-purge : goal.invariant_of-self-in_err-purge
invariant_of-self-in_err-purge g c =
    let opening = g.S.NodeTag.opening in
    let inside = c.self.inside in
    let queued = inside.views.queued in
    let is = c.self.invariant in
    let old : ViewedNode = record { core = inside.core; hub = inside.hub; watches = inside.watches.items; history = inside.history; published = inside.views.published; news = inside.news } in
    let noted = added-locked opening queued inside.lacking c.add.new.self old c.name.result.now _ is.0 c.in_ok-add.ensures.ok (since-read _ _ _ _ _ c.upto-upto.ensures.version c.floor-lowest.ensures.floor c.holdings.ensures.held) in
    let same = c.in_err-purge.ensures.err in
    let history = c.call_at.ensures.history in (
      subst (λ (l : ViewedNode). IsViewedNode opening queued c.add.new.self l) (λ i. record { core = sym same i; hub = inside.hub; watches = inside.watches.items; history = sym history i; published = inside.views.published; news = inside.news }) noted,
      is.1 ∙ ap (λ (l : List Event). length l) (sym history),
      ap (λ (k : Core). k.settings) same ∙ is.2,
      is.3,
      is.4,
    )
