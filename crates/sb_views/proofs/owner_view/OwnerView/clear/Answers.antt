use Rattle.std.proofs.Common.{ℕ, ap, sym, subst, ◌∙◌}
use Rattle.std.specs.FinMap.{FinMap, empty}
use Rattle.sb_types.specs.Value.{Value}
use Rattle.sb_views.specs.NodeViews.{OwnerView, AreLive, live_rows_of}
use Rattle.sb_views.proofs.ByText.{by_text, from_nothing}
use Rattle.sb_views.proofs.LiveEntries.{ascend, none_live}
use Rattle.sb_views.proofs.owner_view.OwnerView.clear.Goals as goal

pub returns : goal.returns
returns c =
    let es = c.clear.new.self.items in
    ap (λ (rows : FinMap by_text (Value × ℕ)). let v : OwnerView = record { upto = c.self.inside.upto; rows = rows } in v)
    (from_nothing (live_rows_of es) (ap live_rows_of c.clear.ensures.items) (ascend es (subst AreLive (sym c.clear.ensures.items) none_live).rising))
    ∙ ap (λ (v : OwnerView). let w : OwnerView = record { upto = v.upto; rows = empty } in w) c.self.view_is

pub invariant_of-self : goal.invariant_of-self
invariant_of-self c = subst AreLive (sym c.clear.ensures.items) none_live
