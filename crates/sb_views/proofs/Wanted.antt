-- The rows of the wanted owners.
use Rattle.std.proofs.Common.{◌≡◌, ℕ, Bool, true, false, ◌&&◌, not, nat_eq, is_gt, List, filter, Option, Some, refl, sym, ap, ◌∙◌}
use Rattle.std.proofs.lemmas.Cmp.{nat_list_cmp_total, tied_itself}
use Rattle.std.proofs.lemmas.List.Elements.{filter_agree}
use Rattle.std.specs.declared.cmp.Ordering.{Ordering}
use Rattle.std.specs.declared.cmp.Ordering.TheVariants.{Less, Equal, Greater}
use Rattle.std.specs.declared.ops.Bound.TheVariants.{Included, Excluded}
use Rattle.std.specs.Ordering.{is_lt, is_le, is_eq}
use Rattle.std.specs.Cmp.Lexicographic.{pointwise, texts_ties}
use Rattle.std.specs.BTreeMap.Range.{range_contains}
use Rattle.std.specs.FinMap.{entries-from_sorted}
use Rattle.sb_types.proofs.Texts.{same_text}
use Rattle.sb_views.specs.NodeViews.{OwnerView, NodeView, view_of}
use Rattle.sb_views.specs.LiveRows.{is_wanted, rows_of_owners, rows_in}
use Rattle.sb_views.proofs.ByText.{by_text, Ascend, sorted}

between-case : (r : Ordering) → (is_le r && not (is_lt r)) ≡ is_eq r
between-case Less = refl
between-case Equal = refl
between-case Greater = refl

-- between a name and itself is that name alone
pub one-between : (owner : List ℕ) (es : List (List ℕ × OwnerView))
    → filter (λ (p : List ℕ × OwnerView). range_contains by_text (Included owner) (Included owner) p.0) es ≡ filter (λ (p : List ℕ × OwnerView). is_wanted (Some owner) p.0) es
one-between owner es =
    filter_agree (λ (p : List ℕ × OwnerView). range_contains by_text (Included owner) (Included owner) p.0) (λ (p : List ℕ × OwnerView). is_wanted (Some owner) p.0)
    (λ p. between-case (by_text owner p.0) ∙ sym (texts_ties owner p.0)) es

pub rows-wanted : (wanted : Option (List ℕ)) (prefix : List ℕ) (es part : List (List ℕ × OwnerView)) (view : NodeView) → Ascend es → view_of es ≡ view
    → part ≡ filter (λ (p : List ℕ × OwnerView). is_wanted wanted p.0) es → rows_of_owners prefix part ≡ rows_in wanted prefix view
rows-wanted wanted prefix es part view up viewed e =
    ap (rows_of_owners prefix) (e ∙ ap (filter (λ (p : List ℕ × OwnerView). is_wanted wanted p.0)) (sym (entries-from_sorted by_text es (sorted es up))))
    ∙ ap (rows_in wanted prefix) viewed

-- of the wanted name alone, where it is behind the owner's
pub one-behind : (owner name : List ℕ) → is_lt (by_text owner name) ≡ true → (q : List ℕ)
    → range_contains by_text (Included name) (Included name) q ≡ (is_wanted (Some name) q && is_lt (by_text owner q))
one-behind owner name less q = between-case (by_text name q) ∙ sym (texts_ties name q) ∙ only (pointwise nat_eq name q) refl
  where
    only : (b : Bool) → pointwise nat_eq name q ≡ b → b ≡ (b && is_lt (by_text owner q))
    only true is = let same : name ≡ q = same_text name q is in sym (ap (λ (n : List ℕ). is_lt (by_text owner n)) (sym same) ∙ less)
    only false is = refl

apart-case : (b : Bool) → (b && not b) ≡ false
apart-case true = refl
apart-case false = refl

-- none, where it is not
pub none-behind : (owner name : List ℕ) → is_lt (by_text owner name) ≡ false → (q : List ℕ)
    → range_contains by_text (Included name) (Excluded name) q ≡ (is_wanted (Some name) q && is_lt (by_text owner q))
none-behind owner name not_less q = apart-case (is_le (by_text name q)) ∙ none (pointwise nat_eq name q) refl
  where
    none : (b : Bool) → pointwise nat_eq name q ≡ b → false ≡ (b && is_lt (by_text owner q))
    none true is = let same : name ≡ q = same_text name q is in sym (ap (λ (n : List ℕ). is_lt (by_text owner n)) (sym same) ∙ not_less)
    none false is = refl

pub itself-forward : (name : List ℕ) → is_gt (by_text name name) ≡ false
itself-forward name = ap is_gt (tied_itself nat_list_cmp_total name)
