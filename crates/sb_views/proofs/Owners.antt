-- Pages whose sheets are changed.
use Rattle.std.proofs.Common.{◌≡◌, ℕ, List, [], Option, Some, None, is_some, unwrap_or, Result, Ok, Err, OnOk, OnErr, sym, ap, ◌∙◌}
use Rattle.std.proofs.lemmas.Map.Steps.{set_value_same}
use Rattle.std.specs.declared.alloc.AllocError.{AllocError}
use Rattle.std.specs.BTreeMap.{BTreeMap, WritesThrough}
use Rattle.std.specs.FinMap.{FinMap, get, insert, get-empty}
use Rattle.sb_types.specs.Value.{Value}
use Rattle.sb_views.specs.declared.change.Change.{Change}
use Rattle.sb_views.specs.NodeViews.{OwnerView, NodeView, rows_of, view_of, no_view, owner_view_of, row_of, owner_view_with, view_with}
use Rattle.sb_views.proofs.ByText.{by_text, Ascend, found, get-found, with_inserted, from_nothing}

pub no_rows : (es : List (List ℕ × (Value × ℕ))) → es ≡ [] → Ascend es → (let s : OwnerView = record { upto = 0; rows = rows_of es } in s) ≡ no_view
no_rows es none up = ap (λ (rows : FinMap by_text (Value × ℕ)). let s : OwnerView = record { upto = 0; rows = rows } in s) (from_nothing es none up)

module _ (owner : List ℕ) (es : List (List ℕ × OwnerView)) (up : Ascend es) (view : NodeView) (viewed : view_of es ≡ view) where
  pub owner_view-found : get view owner ≡ found es owner
  owner_view-found = ap (λ (p : NodeView). get p owner) (sym viewed) ∙ get-found es up owner

  pub owner_view-none : found es owner ≡ None → get view owner ≡ None
  owner_view-none none = owner_view-found ∙ none

  pub owner_view-is : (t : OwnerView) → found es owner ≡ Some t → owner_view_of view owner ≡ t
  owner_view-is t at = ap (λ (o : Option OwnerView). unwrap_or o no_view) (owner_view-found ∙ at)

module _ (owner : List ℕ) (old new : BTreeMap (List ℕ) OwnerView) (t w : OwnerView) (up : Ascend old.entries) (at : found old.entries owner ≡ Some t)
    (through : WritesThrough by_text (by_text owner) old w new) (view : NodeView) (viewed : view_of old.entries ≡ view) where
  lent-with : view_of new.entries ≡ insert view owner w
  lent-with =
      with_inserted old.entries new.entries owner w up through.4 (through.3 (ap is_some at)).0
      ∙ ap (λ (p : NodeView). insert p owner w) viewed

  pub lent-ok : (c : Change) (r : Result (Unit {0}) AllocError) → OnOk r (w ≡ owner_view_with t c) → OnOk r (view_of new.entries ≡ view_with view owner c)
  lent-ok c (Err fault) ok = tt
  lent-ok c (Ok u) ok =
      lent-with ∙ ap (insert view owner) (ok ∙ ap (λ (s : OwnerView). owner_view_with s c) (sym (owner_view-is owner old.entries up view viewed t at)))

  pub lent-err : (r : Result (Unit {0}) AllocError) → OnErr r (w ≡ t) → OnErr r (view_of new.entries ≡ view)
  lent-err (Ok u) err = tt
  lent-err (Err fault) err = ap view_of (through.0 ∙ set_value_same _ old.entries w (at ∙ ap (λ (s : OwnerView). Some s) (sym err))) ∙ viewed

-- the sheet of a new owner
module _ (owner : List ℕ) (view new : NodeView) (c : Change) (w : OwnerView) (unknown : get view owner ≡ None) (changed : w ≡ owner_view_with no_view c) where
  pub added-ok : (r : Result (Unit {0}) AllocError) (old : NodeView) → old ≡ view → OnOk r (new ≡ insert old owner w) → OnOk r (new ≡ view_with view owner c)
  added-ok (Err fault) old viewed ok = tt
  added-ok (Ok u) old viewed ok =
      ok ∙ ap (λ (p : NodeView). insert p owner w) viewed
      ∙ ap (insert view owner) (changed ∙ ap (λ (o : Option OwnerView). owner_view_with (unwrap_or o no_view) c) (sym unknown))

pub added-err : (view : NodeView) (old new : List (List ℕ × OwnerView)) (r : Result (Unit {0}) AllocError) → view_of old ≡ view → OnErr r (new ≡ old) → OnErr r (view_of new ≡ view)
added-err view old new (Ok u) viewed err = tt
added-err view old new (Err fault) viewed err = ap view_of err ∙ viewed

-- nothing stands under the keys of an owner without a sheet
pub row-none : (view : NodeView) (owner key : List ℕ) → None ≡ get view owner → None ≡ row_of view owner key
row-none view owner key none =
    sym (get-empty by_text key) ∙ ap (λ (o : Option OwnerView). get (unwrap_or o no_view).rows key) none
