use Rattle.std.proofs.Common.{ℕ, List, ap, sym}
use Rattle.std.specs.BTreeMap.{BTreeMap}
use Rattle.sb_views.specs.Changes.{change_of}
use Rattle.sb_views.specs.NodeViews.{OwnerView, view_of}
use Rattle.sb_views.proofs.Owners.{lent-ok, lent-err, owner_view-none}
use Rattle.sb_views.proofs.node_view.NodeView.change.Goals as goal

pub returns-in-Some-clause-ok : goal.returns-in-Some-clause-ok
returns-in-Some-clause-ok c =
    lent-ok c.args.owner.now c.self.inside.owners (c.get_mut.follows.lender c.change.new.self) c.in-Some.owner_view.now c.change.new.self
    c.self.invariant (sym c.in-Some.ensures.value) (c.get_mut.follows.holds c.change.new.self) c.args.self.now c.self.view_is (change_of c.args.change) c.change.result c.change.ensures.ok

pub returns-in-Some-clause-err : goal.returns-in-Some-clause-err
returns-in-Some-clause-err c =
    lent-err c.args.owner.now c.self.inside.owners (c.get_mut.follows.lender c.change.new.self) c.in-Some.owner_view.now c.change.new.self
    c.self.invariant (sym c.in-Some.ensures.value) (c.get_mut.follows.holds c.change.new.self) c.args.self.now c.self.view_is c.change.result c.change.ensures.err

pub add-requires : goal.add-requires
add-requires c =
    owner_view-none c.args.owner.now c.self.inside.owners.entries c.self.invariant _
    (ap (λ (m : BTreeMap (List ℕ) OwnerView). view_of m.entries) (sym c.get_mut.follows.holds-at-none)) (sym c.in-None.ensures.value)
