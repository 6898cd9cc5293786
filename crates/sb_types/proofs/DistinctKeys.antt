-- Entries with keys that differ, by the order of their keys.
use Rattle.std.proofs.Common.{◌≡◌, ℕ, ◌+◌, ◌≤◌, Bool, true, false, not, ltb, ◌||◌, List, [], ◌∷◌, refl, sym, ap, ◌∙◌, arith, Ordering, Less, Equal, Greater, is_lt, true≢false, IsPermutation, IsSorted, nat_cmp}
use Rattle.std.specs.Bool.{Decides}
use Rattle.std.specs.List.{AllByRecursion, IsDistinct, IsAllAdjacentAnswer}
use Rattle.std.specs.List.Sorted.{IsStrictlySortedBy}
use Rattle.std.specs.Cmp.{IsTotalOrder}
use Rattle.std.specs.Cmp.Lexicographic.{slice_cmp, pointwise, texts_ties}
use Rattle.std.specs.Ordering.{on, eq_by_cmp}
use Rattle.std.specs.Prelude.{nat_eq}
use Rattle.std.proofs.lemmas.Bool.{and_parts, ltb-true, lt-ltb, cond-true}
use Rattle.std.proofs.lemmas.Bool.Decides.{Decides-and, Decides-like, same_from_decides, nat_tests}
use Rattle.std.proofs.lemmas.Cmp.{eq_by_cmp_equiv, nat_cmp_total, nat_list_cmp_total, on_total}
use Rattle.std.proofs.lemmas.List.Sorted.{IsPermutation-sym}
use Rattle.std.proofs.lemmas.Map.Keys.{IsDistinct-from_sorted, IsDistinct-IsPermutation, Less-from_sorted}
use Rattle.sb_types.specs.Records.{Entry}
use Rattle.sb_types.specs.Runs.{are_ascending, are_distinct, has_key}
use Rattle.sb_types.specs.Limits.{text_lt}
use Rattle.sb_types.proofs.Rising.{rises_from_neighbours, rises_from_distinct, sorted_back}

abbrev pub by_version : Entry → Entry → Ordering
by_version = on (λ (e : Entry). e.version) nat_cmp

abbrev pub by_key : Entry → Entry → Ordering
by_key = on (λ (e : Entry). e.key) (slice_cmp nat_cmp)

pub by_version_total : IsTotalOrder by_version
by_version_total = on_total (λ (e : Entry). e.version) nat_cmp_total

pub by_key_total : IsTotalOrder by_key
by_key_total = on_total (λ (e : Entry). e.key) nat_list_cmp_total

-- versions that ascend above one ascend above 0
pub ascending_from_zero : (after : ℕ) (xs : List Entry) → are_ascending after xs ≡ true → are_ascending 0 xs ≡ true
ascending_from_zero after [] up = refl
ascending_from_zero after (x ∷ xs) up = grind (arith, nat_tests)

above_all : (n last : ℕ) (xs : List Entry) → n ≤ last → are_ascending last xs ≡ true → AllByRecursion (λ (y : Entry). nat_cmp n y.version ≡ Less) xs
above_all n last [] low up = tt
above_all n last (x ∷ xs) low up =
    let parts = and_parts _ _ up in
    let more = ltb-true last x.version parts.0 in
    (cond-true _ _ _ (lt-ltb n x.version (omega arith)), above_all n x.version xs (omega arith) parts.1)

rises_from_ascending : (last : ℕ) (xs : List Entry) → are_ascending last xs ≡ true → IsStrictlySortedBy by_version xs
unfolding IsStrictlySortedBy
rises_from_ascending last [] up = tt
rises_from_ascending last (x ∷ xs) up =
    let parts = and_parts (ltb last x.version) (are_ascending x.version xs) up in
    (above_all x.version x.version xs (omega arith) parts.1, rises_from_ascending x.version xs parts.1)

-- entries in order of version, in another order and sorted by it again, are themselves
pub versions_sorted_back : (last : ℕ) (xs ys : List Entry) → are_ascending last xs ≡ true → IsPermutation xs ys → IsSorted by_version ys → ys ≡ xs
versions_sorted_back last xs ys up = sorted_back by_version_total xs ys (rises_from_ascending last xs up)

same_key : (x y : Entry) → pointwise nat_eq y.key x.key ≡ eq_by_cmp by_key x y
same_key x y = texts_ties y.key x.key ∙ (eq_by_cmp_equiv by_key_total).symm y x

apart_Decides : (x : Entry) (xs : List Entry) → Decides (not (has_key x.key xs)) (AllByRecursion (λ y. eq_by_cmp by_key x y ≡ false) xs)
apart_Decides x [] = (λ _. tt, λ _. refl)
apart_Decides x (y ∷ ys) = rw (same_key x y) (go (eq_by_cmp by_key x y) (apart_Decides x ys))
  where
    go : (b : Bool) {P : Type 0} → Decides (not (has_key x.key ys)) P → Decides (not (b || has_key x.key ys)) ((b ≡ false) × P)
    go true h = (λ e. absurd (true≢false (sym e)), λ e. absurd (true≢false e.0))
    go false h = (λ e. (refl, h.0 e), λ e. h.1 e.1)

distinct_Decides : (xs : List Entry) → Decides (are_distinct xs) (IsDistinct (eq_by_cmp by_key) xs)
unfolding IsDistinct
distinct_Decides [] = (λ _. tt, λ _. refl)
distinct_Decides (x ∷ xs) = Decides-and _ _ (apart_Decides x xs) (distinct_Decides xs)

less_from_is_lt : (o : Ordering) → true ≡ is_lt o → o ≡ Less
less_from_is_lt Less h = refl
less_from_is_lt Equal h = absurd (true≢false h)
less_from_is_lt Greater h = absurd (true≢false h)

rising_Decides : (r : Bool) (ys : List Entry) → IsSorted by_key ys → IsAllAdjacentAnswer (λ (x y : Entry) b. b ≡ text_lt x.key y.key) ys r → Decides r (IsDistinct (eq_by_cmp by_key) ys)
rising_Decides true ys sorted each = (λ _. IsDistinct-from_sorted by_key ys (rises_from_neighbours by_key_total ys (λ k d l. less_from_is_lt _ (each k d l))), λ _. refl)
rising_Decides false [] sorted some = absurd (omega (arith, some.1))
rising_Decides false (y ∷ ys) sorted some = (
  λ e. absurd (true≢false (sym e)),
  λ distinct.
      let rises = rises_from_distinct by_key_total (y ∷ ys) sorted distinct in
      let less = Less-from_sorted by_key (y ∷ ys) some.0 (some.0 + 1) y rises (omega arith) some.1 in
      absurd (true≢false (sym (ap is_lt less) ∙ sym (some.2 y))),
)

-- of entries sorted by key, whether each key is above the one before tells whether they are distinct, in any order
pub distinct_from_rising : (xs ys : List Entry) (r : Bool) → IsPermutation xs ys → IsSorted by_key ys → IsAllAdjacentAnswer (λ (x y : Entry) b. b ≡ text_lt x.key y.key) ys r → r ≡ are_distinct xs
distinct_from_rising xs ys r moved sorted answer =
    let flips = (eq_by_cmp_equiv by_key_total).symm in
    same_from_decides r (are_distinct xs)
    (Decides-like r (IsDistinct-IsPermutation (eq_by_cmp by_key) flips ys xs (IsPermutation-sym xs ys moved)) (IsDistinct-IsPermutation (eq_by_cmp by_key) flips xs ys moved) (rising_Decides r ys sorted answer))
    (distinct_Decides xs)
