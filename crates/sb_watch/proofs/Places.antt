-- The first element that passes a test, changed or taken out where no other passes.
use Rattle.std.proofs.Common.{◌≡◌, ℕ, zero, suc, ◌<◌, Bool, true, false, not, cond, List, [], ◌∷◌, length, get_or, map, filter, find, position, Option, Some, None, is_some, refl, sym, ap, ap₂, ◌∙◌, arith, true≢false}
use Rattle.std.specs.List.{list_any, position_or_len}
use Rattle.std.proofs.lemmas.Bool.{cond-true, cond-false, or_parts, or_left, or_right, ltb-false, false_from_ne_true}
use Rattle.std.proofs.lemmas.Option.{none-some}
use Rattle.std.proofs.lemmas.List.Folds.{Any-from_list_any}
use Rattle.std.proofs.lemmas.List.Quantifiers.{position-Some}
use Rattle.std.proofs.lemmas.List.Sums.{fails_before_first}

module _ {X : Type 0} (p : X → Bool) where
  -- the element that passes, changed by f
  abbrev pub change : (X → X) → X → X
  change f x = cond (p x) (f x) x

  pub none_found : (xs : List X) → list_any p xs ≡ false → find p xs ≡ None
  none_found [] none = refl
  none_found (x ∷ xs) none =
      let parts = or_parts (p x) (list_any p xs) none in
      cond-false (p x) (Some x) (find p xs) parts.0 ∙ none_found xs parts.1

  pub none_changed : (f : X → X) (xs : List X) → list_any p xs ≡ false → map (change f) xs ≡ xs
  none_changed f [] none = refl
  none_changed f (x ∷ xs) none =
      let parts = or_parts (p x) (list_any p xs) none in
      ap₂ (λ (y : X) (ys : List X). y ∷ ys) (cond-false (p x) (f x) x parts.0) (none_changed f xs parts.1)

  pub none_dropped : (xs : List X) → list_any p xs ≡ false → filter (λ x. not (p x)) xs ≡ xs
  none_dropped [] none = refl
  none_dropped (x ∷ xs) none =
      let parts = or_parts (p x) (list_any p xs) none in
      cond-true (not (p x)) (x ∷ filter (λ y. not (p y)) xs) (filter (λ y. not (p y)) xs) (ap not parts.0)
      ∙ ap (λ (ys : List X). x ∷ ys) (none_dropped xs parts.1)

  abbrev pub some_place : Bool → ℕ → Option ℕ
  some_place b i = cond b (Some i) None

  no_place : (b : Bool) (i : ℕ) → some_place b i ≡ None → b ≡ false
  no_place true i e = absurd (none-some i (sym e))
  no_place false i e = refl

  -- where there is none place, none passes
  pub none_placed : (xs : List X) → position p xs ≡ None → list_any p xs ≡ false
  none_placed xs none =
      let far = ltb-false (position_or_len p xs) (length xs) (no_place _ _ none) in
      false_from_ne_true (list_any p xs) (λ passes.
      let any = Any-from_list_any p xs passes in
      let fails = fails_before_first p xs any.0 any.1 (omega (arith, any.2, far)) in
      absurd (true≢false (sym any.4 ∙ ap p (sym any.3) ∙ fails)))

  first_found : (xs : List X) (i : ℕ) (d : X) → i < length xs → p (get_or xs i d) ≡ true → ((k : ℕ) → k < i → p (get_or xs k d) ≡ false) → find p xs ≡ Some (get_or xs i d)
  first_found [] i d there passes before = absurd (omega arith)
  first_found (x ∷ xs) zero d there passes before = cond-true (p x) (Some x) (find p xs) passes
  first_found (x ∷ xs) (suc i) d there passes before =
      cond-false (p x) (Some x) (find p xs) (before 0 (omega arith)) ∙ first_found xs i d (omega arith) passes (λ k less. before (suc k) (omega arith))

  -- what is found is what stands at the place
  pub found_at : (xs : List X) (i : ℕ) (d : X) → position p xs ≡ Some i → find p xs ≡ Some (get_or xs i d)
  found_at xs i d at = let place = position-Some p xs i d at in first_found xs i d place.0 place.1 place.2

  pub any_at : (xs : List X) (i : ℕ) (d : X) → i < length xs → p (get_or xs i d) ≡ true → list_any p xs ≡ true
  any_at [] i d there passes = absurd (omega arith)
  any_at (x ∷ xs) zero d there passes = or_left (p x) (list_any p xs) passes
  any_at (x ∷ xs) (suc i) d there passes = or_right (p x) (list_any p xs) (any_at xs i d (omega arith) passes)

  pub any_placed : (xs : List X) (i : ℕ) (d : X) → position p xs ≡ Some i → list_any p xs ≡ true
  any_placed xs i d at = let place = position-Some p xs i d at in any_at xs i d place.0 place.1

  pub is_placed : (xs : List X) (place : Option ℕ) → place ≡ position p xs → is_some place ≡ list_any p xs
  is_placed [] (Some i) at = absurd (none-some i (sym at))
  is_placed (x ∷ xs) (Some i) at = sym (any_placed (x ∷ xs) i x (sym at))
  is_placed xs None at = sym (none_placed xs (sym at))
