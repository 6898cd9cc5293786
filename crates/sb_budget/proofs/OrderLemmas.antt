-- A list of what is offered, in another order.
use Rattle.std.proofs.Common.{◌≡◌, ℕ, ◌+◌, ◌<◌, Bool, true, false, not, ◌&&◌, ◌||◌, List, [], ◌∷◌, get_or, inl, inr, ◌⊎◌, ⊎_elim, refl, sym, ap, ap₂, ◌∙◌, arith, Ordering, Less, is_lt, true≢false, IsPermutation, IsSorted, nat_eq, nat_lt, if◌then◌else◌}
use Rattle.std.specs.List.{AllByRecursion}
use Rattle.std.specs.List.Sorted.{IsStrictlySortedBy}
use Rattle.std.specs.Cmp.{IsTotalOrder}
use Rattle.std.specs.Cmp.Lexicographic.{pointwise}
use Rattle.std.specs.Ordering.{on, nat_cmp}
use Rattle.std.proofs.lemmas.Bool.{and_parts, and_from, and_cases, or_cases, or_left, ltb-true, lt-ltb, eqb-true, eq-eqb, not_from_true, cond-true}
use Rattle.std.proofs.lemmas.Cmp.{nat_cmp_total, on_total, lists_equiv, nat_eq_equiv}
use Rattle.std.proofs.lemmas.List.Elements.{filter_passes, recursion_from_All}
use Rattle.std.proofs.lemmas.List.Kept.{AllPairs-filter}
use Rattle.std.proofs.lemmas.List.Sorted.{All-permutation, IsPermutation-sym, ranks_by, sorted_far}
use Rattle.std.proofs.lemmas.Map.Keys.{IsDistinct-IsPermutation, IsDistinct-from_apart, apart_from_distinct}
use Rattle.sb_types.specs.Runs.{Stands}
use Rattle.sb_types.proofs.Rising.{all_stand, rises_from_neighbours, same_from_rising}
use Rattle.sb_types.proofs.Standing.{kept}
use Rattle.sb_types.proofs.Texts.{same_text, text_same}
use Rattle.sb_budget.specs.declared.offered.Offered.{Offered}
use Rattle.sb_budget.specs.Orders.{offered_by, version_of, Precedes, IsOffer, AscendsByOwner}

-- ---- each owner's items ascend in every order by its ranks

precedes : Offered → Offered → Bool
precedes x y = nat_lt (version_of x) (version_of y) && (nat_lt x.rank y.rank && nat_eq x.count y.count)

-- two items of one owner of which neither precedes the other
clash : Offered → Offered → Bool
clash x y = pointwise nat_eq x.owner y.owner && not (precedes x y || precedes y x)

or_flips : (a b : Bool) → (a || b) ≡ (b || a)
or_flips true true = refl
or_flips true false = refl
or_flips false true = refl
or_flips false false = refl

clash_flips : (x y : Offered) → clash x y ≡ clash y x
unfolding clash
clash_flips x y = ap₂ (λ a b. a && not b) ((lists_equiv nat_eq_equiv).symm x.owner y.owner) (or_flips (precedes x y) (precedes y x))

abbrev pub Before : Offered → Offered → Type 0
Before x y = (version_of x < version_of y) × (x.rank < y.rank) × (x.count ≡ y.count)

before_from : (x y : Offered) → precedes x y ≡ true → Before x y
unfolding precedes
before_from x y t =
    let p = and_parts _ _ t in
    let q = and_parts _ _ p.1 in
    (ltb-true _ _ p.0, ltb-true _ _ q.0, eqb-true _ _ q.1)

precedes_from : (x y : Offered) → Before x y → precedes x y ≡ true
unfolding precedes
precedes_from x y b = and_from _ _ (lt-ltb _ _ b.0) (and_from _ _ (lt-ltb _ _ b.1) (eq-eqb _ _ b.2))

no_clash : (x y : Offered) → Precedes x y → clash x y ≡ false
unfolding clash
no_clash x y goes = go (pointwise nat_eq x.owner y.owner) (λ t. precedes_from x y (goes (same_text x.owner y.owner t)))
  where
    go : (b : Bool) → (b ≡ true → precedes x y ≡ true) → (b && not (precedes x y || precedes y x)) ≡ false
    go true first = not_from_true _ (or_left _ _ (first refl))
    go false first = refl

one_before : (x y : Offered) → clash x y ≡ false → x.owner ≡ y.owner → Before x y ⊎ Before y x
unfolding clash
one_before x y none same =
    ⊎_elim (λ f. absurd (true≢false (sym (text_same x.owner y.owner same) ∙ f)))
    (λ f. ⊎_elim (λ a. inl (before_from x y a)) (λ b. inr (before_from y x b)) (or_cases _ _ (not_false _ f)))
    (and_cases _ _ none)
  where
    not_false : (b : Bool) → not b ≡ false → b ≡ true
    not_false true e = refl
    not_false false e = absurd (true≢false e)

module _ {R : Offered → Offered → Ordering} (total : IsTotalOrder R) (follows : (x y : Offered) → x.owner ≡ y.owner → Before x y → R x y ≡ Less) where
  pub sorted_ascends : (xs ys : List Offered) → IsOffer xs → IsPermutation xs ys → IsSorted R ys → AscendsByOwner ys
  sorted_ascends xs ys offer moved sorted i j d l k =
      let apart = IsDistinct-IsPermutation clash clash_flips xs ys moved (IsDistinct-from_apart clash xs (λ i j d l k. no_clash _ _ (offer i j d l k))) in
      let x = get_or ys i d in
      let y = get_or ys j d in
      λ same. ⊎_elim (λ b. b.0) (λ b. absurd (back x y same b (sorted_far _ (ranks_by total (λ x. x)) ys sorted i j d (omega arith) k))) (one_before x y (apart_from_distinct clash ys i j d apart l k) same)
    where
      back : (x y : Offered) → x.owner ≡ y.owner → Before y x → is_lt (R y x) ≡ false → ⊥
      back x y same b none = true≢false (sym (ap is_lt (follows y x (sym same) b)) ∙ none)

-- ---- each owner's items are kept

by_version : Offered → Offered → Ordering
by_version = on (λ (x : Offered). version_of x) nat_cmp

by_version_total : IsTotalOrder by_version
unfolding by_version
by_version_total = on_total (λ (x : Offered). version_of x) nat_cmp_total

abbrev is_of : List ℕ → Offered → Bool
is_of owner x = pointwise nat_eq x.owner owner

module _ (owner : List ℕ) where
  rises : (xs : List Offered) → AscendsByOwner xs → IsStrictlySortedBy by_version (offered_by owner xs)
  unfolding by_version
  rises xs ascends = rises_from_neighbours by_version_total (offered_by owner xs) (λ k d l.
      let x = get_or (offered_by owner xs) k d in
      let y = get_or (offered_by owner xs) (k + 1) d in
      let passes = filter_passes (is_of owner) xs in
      let same : x.owner ≡ y.owner = same_text x.owner owner (passes k d (omega arith)) ∙ sym (same_text y.owner owner (passes (k + 1) d l)) in
      let less = AllPairs-filter (λ (x y : Offered). x.owner ≡ y.owner → version_of x < version_of y) (is_of owner) xs ascends k (k + 1) d (omega arith) l same in
      cond-true _ _ _ (lt-ltb (version_of x) (version_of y) less))

  stand_kept : (xs ys : List Offered) → AllByRecursion (Stands xs) ys → AllByRecursion (Stands (offered_by owner xs)) (offered_by owner ys)
  stand_kept xs [] h = tt
  stand_kept xs (y ∷ ys) h = go (is_of owner y) (λ t. kept (is_of owner) xs y h.0 t) (stand_kept xs ys h.1)
    where
      go : (b : Bool) → (b ≡ true → Stands (offered_by owner xs) y) → AllByRecursion (Stands (offered_by owner xs)) (offered_by owner ys) → AllByRecursion (Stands (offered_by owner xs)) (if b then y ∷ offered_by owner ys else offered_by owner ys)
      go true first rest = (first refl, rest)
      go false first rest = rest

  all_moved : (xs ys : List Offered) → IsPermutation xs ys → AllByRecursion (Stands (offered_by owner xs)) (offered_by owner ys)
  all_moved xs ys moved = stand_kept xs ys (recursion_from_All (Stands xs) ys (All-permutation (Stands xs) xs ys moved (all_stand xs)))

  pub owner_kept : (xs ys : List Offered) → IsOffer xs → IsPermutation xs ys → AscendsByOwner ys → offered_by owner ys ≡ offered_by owner xs
  owner_kept xs ys offer moved ascends =
      same_from_rising by_version_total (offered_by owner xs) (offered_by owner ys)
      (rises xs (λ i j d l k same. (offer i j d l k same).0))
      (rises ys ascends)
      (all_moved xs ys moved)
      (all_moved ys xs (IsPermutation-sym xs ys moved))
