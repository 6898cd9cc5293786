use Rattle.std.proofs.Common.{◌≡◌, ℕ, Option, Some, ap, ap₂, sym, ◌∙◌}
use Rattle.std.specs.FinMap.{get}
use Rattle.sb_types.specs.Value.{Value}
use Rattle.sb_views.specs.NodeViews.{OwnerView, live_rows_of}
use Rattle.sb_views.proofs.ByText.{get-found}
use Rattle.sb_views.proofs.LiveEntries.{ascend, lent_found, lent_missed, lent_set_at}
use Rattle.sb_views.proofs.owner_view.OwnerView.get.Goals as goal

shown : (value : Value) (version : ℕ) (live : Value × ℕ) → value ≡ live.0 → version ≡ live.1 → ◌≡◌ {A = Option (Value × ℕ)} (Some (value, version)) (Some live)
shown value version live one two = ap₂ (λ (v : Value) (n : ℕ). Some (v, n)) one two

pub of-live-requires : goal.of-live-requires
of-live-requires c = lent_set_at c.self.inside.rows.items c.deref.result.now c.args.key.now c.in-Ok.place c.deref.ensures.value c.index.result.now c.self.invariant c.in-Ok.ensures.bound c.index.ensures

pub returns-in-Ok : goal.returns-in-Ok
returns-in-Ok c =
    let es = c.self.inside.rows.items in
    let key = c.args.key.now in
    shown c.value.result.now c.version.result c.of-live.result c.value.ensures c.version.ensures.version
    ∙ ap (λ (l : Value × ℕ). Some l) c.of-live.ensures
    ∙ sym (lent_found es c.deref.result.now key c.in-Ok.place c.deref.ensures.value c.index.result.now c.self.invariant c.in-Ok.ensures.bound c.in-Ok.ensures.place c.index.ensures)
    ∙ sym (get-found (live_rows_of es) (ascend es c.self.invariant.rising) key) ∙ ap (λ (s : OwnerView). get s.rows key) c.self.view_is

pub returns-in-Err : goal.returns-in-Err
returns-in-Err c =
    let es = c.self.inside.rows.items in
    let key = c.args.key.now in
    sym (lent_missed es c.deref.result.now key c.in-Err.field-0 c.deref.ensures.value c.self.invariant c.in-Err.ensures.place)
    ∙ sym (get-found (live_rows_of es) (ascend es c.self.invariant.rising) key) ∙ ap (λ (s : OwnerView). get s.rows key) c.self.view_is
