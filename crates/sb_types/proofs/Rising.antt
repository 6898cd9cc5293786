-- Lists that rise by an order. A list that is sorted rises where no two elements tie, and of the orders of a list one rises at most.
use Rattle.std.proofs.Common.{◌≡◌, ℕ, zero, suc, ◌+◌, ◌<◌, false, List, [], ◌∷◌, length, get_or, inl, inr, refl, sym, ap, ◌∙◌, subst, arith, Ordering, Less, Equal, Greater, is_lt, is_eq, true≢false, IsPermutation, IsSorted}
use Rattle.std.specs.List.{All, AllByRecursion, IsDistinct}
use Rattle.std.specs.List.Sorted.{IsStrictlySortedBy}
use Rattle.std.specs.Cmp.{IsTotalOrder}
use Rattle.std.specs.Ordering.{ordering_reverse, eq_by_cmp}
use Rattle.std.proofs.lemmas.Cmp.{tied_itself, eq_by_cmp_equiv}
use Rattle.std.proofs.lemmas.List.Elements.{recursion_from_All}
use Rattle.std.proofs.lemmas.List.Sorted.{All-permutation, IsPermutation-sym}
use Rattle.std.proofs.lemmas.Map.Keys.{IsDistinct-from_sorted, IsDistinct-IsPermutation, apart_from_distinct, sorted_from_all_adjacent}
use Rattle.sb_types.specs.Runs.{Stands}

pub all_stand : {X : Type 0} (xs : List X) → All (Stands xs) xs
all_stand [] k d l = absurd (omega arith)
all_stand (x ∷ xs) zero d l = inl refl
all_stand (x ∷ xs) (suc k) d l = inr (all_stand xs k d (omega arith))

module _ {X : Type 0} {R : X → X → Ordering} (total : IsTotalOrder R) where
  pub rises_from_neighbours : (xs : List X) → ((k : ℕ) (d : X) → k + 1 < length xs → R (get_or xs k d) (get_or xs (k + 1) d) ≡ Less) → IsStrictlySortedBy R xs
  unfolding IsStrictlySortedBy
  rises_from_neighbours [] h = tt
  rises_from_neighbours (x ∷ xs) h = sorted_from_all_adjacent total (x ∷ xs) x (λ k l. h k x l)

  less : (o : Ordering) → is_lt (ordering_reverse o) ≡ false → is_eq o ≡ false → o ≡ Less
  less Less falls ties = refl
  less Equal falls ties = absurd (true≢false ties)
  less Greater falls ties = absurd (true≢false falls)

  -- what neither falls nor has a tie rises
  pub rises_from_distinct : (xs : List X) → IsSorted R xs → IsDistinct (eq_by_cmp R) xs → IsStrictlySortedBy R xs
  rises_from_distinct xs sorted distinct = rises_from_neighbours xs (λ k d l.
      less _ (ap is_lt (sym (total.antisymm _ _)) ∙ sorted k d (omega arith) l) (apart_from_distinct (eq_by_cmp R) xs k (k + 1) d distinct (omega arith) l))

  stands_above : (n e : X) (xs : List X) → AllByRecursion (λ z. R n z ≡ Less) xs → Stands xs e → R n e ≡ Less
  stands_above n e [] above stands = absurd stands
  stands_above n e (x ∷ xs) above (inl same) = subst (λ z. R n z ≡ Less) same above.0
  stands_above n e (x ∷ xs) above (inr later) = stands_above n e xs above.1 later

  not_above_itself : (x : X) → R x x ≡ Less → ⊥
  not_above_itself x less = let tied = tied_itself total x in cc

  -- what stands above the first stands among the others
  others : (x : X) (xs zs : List X) → AllByRecursion (λ z. R x z ≡ Less) zs → AllByRecursion (Stands (x ∷ xs)) zs → AllByRecursion (Stands xs) zs
  others x xs [] above stand = tt
  others x xs (z ∷ zs) above stand =
      (elim (stand.0) [ inl same ↦ absurd (not_above_itself x (subst (λ e. R x e ≡ Less) (sym same) above.0)) | inr later ↦ later ], others x xs zs above.1 stand.1)

  first : (x y : X) (xs ys : List X) → AllByRecursion (λ z. R x z ≡ Less) xs → AllByRecursion (λ z. R y z ≡ Less) ys → Stands (x ∷ xs) y → Stands (y ∷ ys) x → y ≡ x
  first x y xs ys s t (inl same) k = sym same
  first x y xs ys s t (inr h) (inl same) = same
  first x y xs ys s t (inr h) (inr k) = absurd (not_above_itself x (total.trans x y x (stands_above x y xs s h) (stands_above y x ys t k)))

  -- two lists that rise and have the same elements are one
  pub same_from_rising : (xs ys : List X) → IsStrictlySortedBy R xs → IsStrictlySortedBy R ys → AllByRecursion (Stands xs) ys → AllByRecursion (Stands ys) xs → ys ≡ xs
  unfolding IsStrictlySortedBy
  same_from_rising [] [] s t h k = refl
  same_from_rising [] (y ∷ ys) s t h k = absurd h.0
  same_from_rising (x ∷ xs) [] s t h k = absurd k.0
  same_from_rising (x ∷ xs) (y ∷ ys) s t h k =
      let same = first x y xs ys s.0 t.0 h.0 k.0 in
      let tail = same_from_rising xs ys s.1 t.1 (others x xs ys (subst (λ e. AllByRecursion (λ z. R e z ≡ Less) ys) same t.0) h.1) (others y ys xs (subst (λ e. AllByRecursion (λ z. R e z ≡ Less) xs) (sym same) s.0) k.1) in
      cc

  -- a list that rose, in another order and sorted again, is itself
  pub sorted_back : (xs ys : List X) → IsStrictlySortedBy R xs → IsPermutation xs ys → IsSorted R ys → ys ≡ xs
  sorted_back xs ys rises moved sorted =
      let distinct = IsDistinct-IsPermutation (eq_by_cmp R) (eq_by_cmp_equiv total).symm xs ys moved (IsDistinct-from_sorted R xs rises) in
      same_from_rising xs ys rises (rises_from_distinct ys sorted distinct)
      (recursion_from_All (Stands xs) ys (All-permutation (Stands xs) xs ys moved (all_stand xs)))
      (recursion_from_All (Stands ys) xs (All-permutation (Stands ys) ys xs (IsPermutation-sym xs ys moved) (all_stand ys)))
