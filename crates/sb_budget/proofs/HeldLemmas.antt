-- What is available of an owner, by what is held of it.
use Rattle.std.proofs.Common.{◌≡◌, ℕ, Bool, true, false, cond, ◌&&◌, ◌||◌, List, [], ◌∷◌, ◌⊎◌, inl, inr, refl, sym, ap, subst, ◌∙◌, arith, Option, Some, None, nat_eq, T, Ordering, Equal, true≢false, unwrap_or}
use Rattle.std.specs.FinMap.{FinMap, entries, get-entries, entries_sorted, find, is_sorted}
use Rattle.std.specs.FinMap.Entries.{below_all}
use Rattle.std.specs.Ordering.{is_lt, eq_by_cmp}
use Rattle.std.specs.Cmp.Lexicographic.{pointwise, texts_ties}
use Rattle.std.proofs.lemmas.Bool.{cases_Bool, cond-true, cond-false, false_from_ne_true, or_from, and_from, not_from_false, le-ltb}
use Rattle.sb_types.specs.Records.{Table, Holder}
use Rattle.sb_types.specs.Runs.{Stands}
use Rattle.sb_holdings.specs.Held.{empty_holder, holder_of}
use Rattle.sb_types.proofs.Texts.{same_text, text_same}
use Rattle.sb_budget.specs.Offers.{of_owner, items_of, is_named, are_named_once, available_items}
use Rattle.sb_budget.proofs.OfferLemmas.{available_of, unnamed}
use Rattle.sb_budget.proofs.PlaceLemmas.{text_cmp, Equal_from_same}

both_hold : (a b : Bool) → T (a && b) → T a × T b
both_hold true b h = (tt, h)
both_hold false b h = absurd h

less_from : (o : Ordering) → T (is_lt o) → o ≡ Equal → ⊥
less_from o h tied = subst (λ (r : Ordering). T (is_lt r)) tied h

not_below : (name : List ℕ) (es : List (List ℕ × Holder)) → T (below_all text_cmp name es) → is_named name es ≡ false
not_below name [] below = refl
not_below name (e ∷ es) below =
    let parts = both_hold (is_lt (text_cmp name e.0)) (below_all text_cmp name es) below in
    or_from _ _ (false_from_ne_true _ (λ t. less_from (text_cmp name e.0) parts.0 (Equal_from_same name e.0 (sym (same_text e.0 name t))))) (not_below name es parts.1)

named_once : (es : List (List ℕ × Holder)) → T (is_sorted text_cmp es) → are_named_once es ≡ true
named_once [] sorted = refl
named_once (e ∷ es) sorted =
    let parts = both_hold (below_all text_cmp e.0 es) (is_sorted text_cmp es) sorted in
    and_from _ _ (not_from_false _ (not_below e.0 es parts.0)) (named_once es parts.1)

-- what is found stands there, and what is not found is not named
looked_up : (es : List (List ℕ × Holder)) (owner : List ℕ) →
    ((h : Holder) × (find text_cmp owner es ≡ Some h) × Stands es (owner, h)) ⊎ ((find text_cmp owner es ≡ None) × (is_named owner es ≡ false))
looked_up [] owner = inr (refl, refl)
looked_up (e ∷ es) owner = go (cases_Bool (eq_by_cmp text_cmp owner e.0)) (looked_up es owner)
  where
    go : ((eq_by_cmp text_cmp owner e.0 ≡ true) ⊎ (eq_by_cmp text_cmp owner e.0 ≡ false)) → (((h : Holder) × (find text_cmp owner es ≡ Some h) × Stands es (owner, h)) ⊎ ((find text_cmp owner es ≡ None) × (is_named owner es ≡ false))) →
        ((h : Holder) × (cond (eq_by_cmp text_cmp owner e.0) (Some e.1) (find text_cmp owner es) ≡ Some h) × Stands (e ∷ es) (owner, h)) ⊎ ((cond (eq_by_cmp text_cmp owner e.0) (Some e.1) (find text_cmp owner es) ≡ None) × ((pointwise nat_eq e.0 owner || is_named owner es) ≡ false))
    go (inl tied) rest =
        let same : owner ≡ e.0 = same_text owner e.0 (texts_ties owner e.0 ∙ tied) in
        inl (e.1, cond-true _ _ _ tied, inl (ap (λ (name : List ℕ). (name, e.1)) (sym same)))
    go (inr apart) (inl found) = inl (found.0, cond-false _ _ _ apart ∙ found.1, inr found.2)
    go (inr apart) (inr missing) =
        inr (cond-false _ _ _ apart ∙ missing.0, or_from _ _ (false_from_ne_true _ (λ t. true≢false (sym (text_same owner e.0 (sym (same_text e.0 owner t))) ∙ texts_ties owner e.0 ∙ apart))) missing.1)

nothing_above : (owner : List ℕ) (n : ℕ) → items_of owner empty_holder.shown n ≡ []
nothing_above owner n = cond-false _ _ _ (le-ltb n 0 (omega arith))

pub available_of_owner : (reaches : List ℕ → Bool) (shown_as : List ℕ → Table → Table) (known : List ℕ → Table → ℕ) → ((q : List ℕ) → shown_as q empty_holder.shown ≡ empty_holder.shown) → (owners : FinMap text_cmp Holder) (owner : List ℕ) → reaches owner ≡ true →
    of_owner owner (available_items reaches shown_as known (entries owners)) ≡ items_of owner (shown_as owner (holder_of owners owner).shown) (known owner (holder_of owners owner).shown)
available_of_owner reaches shown_as known still owners owner reached = go (looked_up (entries owners) owner)
  where
    go : (((h : Holder) × (find text_cmp owner (entries owners) ≡ Some h) × Stands (entries owners) (owner, h)) ⊎ ((find text_cmp owner (entries owners) ≡ None) × (is_named owner (entries owners) ≡ false))) →
        of_owner owner (available_items reaches shown_as known (entries owners)) ≡ items_of owner (shown_as owner (holder_of owners owner).shown) (known owner (holder_of owners owner).shown)
    go (inl found) =
        let held : holder_of owners owner ≡ found.0 = ap (λ (o : Option Holder). unwrap_or o empty_holder) (get-entries owners owner ∙ found.1) in
        available_of reaches shown_as known (entries owners) (owner, found.0) (named_once (entries owners) (entries_sorted owners)) found.2 reached
        ∙ ap (λ (h : Holder). items_of owner (shown_as owner h.shown) (known owner h.shown)) (sym held)
    go (inr missing) =
        let none : holder_of owners owner ≡ empty_holder = ap (λ (o : Option Holder). unwrap_or o empty_holder) (get-entries owners owner ∙ missing.0) in
        unnamed reaches shown_as known (entries owners) owner missing.1
        ∙ sym (nothing_above owner (known owner empty_holder.shown)) ∙ ap (λ (t : Table). items_of owner t (known owner empty_holder.shown)) (sym (still owner)) ∙ ap (λ (h : Holder). items_of owner (shown_as owner h.shown) (known owner h.shown)) (sym none)
