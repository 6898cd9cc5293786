-- A binary search among ages whose owners ascend.
use Rattle.std.proofs.Common.{◌≡◌, ℕ, zero, suc, ◌+◌, ◌<◌, true, false, List, [], ◌∷◌, length, get_or, Some, None, Ok, Err, refl, sym, ap, ◌∙◌, arith, Ordering, Less, Equal, is_lt, nat_cmp, nat_eq, inl, inr}
use Rattle.std.specs.Ordering.{on, ordering_index, ordering_reverse}
use Rattle.std.specs.List.{AllByRecursion}
use Rattle.std.specs.Option.{option_map}
use Rattle.std.specs.Cmp.{IsTotalOrder}
use Rattle.std.specs.Cmp.Lexicographic.{slice_cmp, pointwise}
use Rattle.std.specs.List.Sorted.{IsStrictlySortedBy, IsSearchInRange, IsBinarySearchResult, IsNonDecreasingBy}
use Rattle.std.specs.FinMap.{slice_cmp-IsAntisymmetric, nat_cmp-IsAntisymmetric}
use Rattle.std.proofs.lemmas.Bool.{cond-true, cond-false, cases_lt, and_parts}
use Rattle.std.proofs.lemmas.Cmp.{nat_list_cmp_total, on_total}
use Rattle.std.proofs.lemmas.List.Sorted.{searchable_from_sorted}
use Rattle.std.proofs.lemmas.Map.Keys.{Less-from_sorted, sorted_tail}
use Rattle.sb_types.specs.Limits.{text_lt}
use Rattle.sb_types.proofs.Texts.{Less-from_text_lt, text_lt-trans, apart-from_Less, apart-from_Greater, same-from_Equal}
use Rattle.sb_codec.specs.declared.message.ages.OwnerAge.{OwnerAge}
use Rattle.sb_codec.specs.Limits.{are_ages_above, are_owner_ages, are_ages}
use Rattle.sb_run.specs.HttpReads.{age_of}

abbrev by_owner : OwnerAge → OwnerAge → Ordering
by_owner = on (λ (a : OwnerAge). a.owner) (slice_cmp nat_cmp)

by_owner_total : IsTotalOrder by_owner
by_owner_total = on_total (λ (a : OwnerAge). a.owner) nat_list_cmp_total

behind : (name last : List ℕ) (ages : List OwnerAge) → text_lt name last ≡ true → are_ages_above last ages ≡ true → AllByRecursion (λ (a : OwnerAge). slice_cmp nat_cmp name a.owner ≡ Less) ages
behind name last [] before up = tt
behind name last (a ∷ ages) before up =
    let parts = and_parts _ _ up in
    let less = text_lt-trans name last a.owner before parts.0 in
    (Less-from_text_lt name a.owner less, behind name a.owner ages less parts.1)

first_behind : (name : List ℕ) (ages : List OwnerAge) → are_ages_above name ages ≡ true → AllByRecursion (λ (a : OwnerAge). slice_cmp nat_cmp name a.owner ≡ Less) ages
first_behind name [] up = tt
first_behind name (a ∷ ages) up =
    let parts = and_parts _ _ up in
    (Less-from_text_lt name a.owner parts.0, behind name a.owner ages parts.0 parts.1)

rises : (last : List ℕ) (ages : List OwnerAge) → are_ages_above last ages ≡ true → IsStrictlySortedBy by_owner ages
unfolding IsStrictlySortedBy
rises last [] up = tt
rises last (a ∷ ages) up =
    let parts = and_parts (text_lt last a.owner) (are_ages_above a.owner ages) up in
    (first_behind a.owner ages parts.1, rises a.owner ages parts.1)

rises_from_are_ages : (ages : List OwnerAge) → are_ages ages ≡ true → IsStrictlySortedBy by_owner ages
rises_from_are_ages ages are = rises [] ages (and_parts (are_ages_above [] ages) _ (and_parts _ (are_owner_ages ages) are).1).0

found : (name : List ℕ) (ages : List OwnerAge) (i : ℕ) (d : OwnerAge) → IsStrictlySortedBy by_owner ages → i < length ages → slice_cmp nat_cmp (get_or ages i d).owner name ≡ Equal → age_of name ages ≡ Some (get_or ages i d).age
found name [] i d up l same = absurd (omega arith)
found name (a ∷ ages) zero d up l same = ap (option_map (λ (heard : OwnerAge). heard.age)) (cond-true _ _ _ (same-from_Equal a.owner name same))
found name (a ∷ ages) (suc i) d up l same =
    let less : slice_cmp nat_cmp a.owner (get_or ages i d).owner ≡ Less = Less-from_sorted by_owner (a ∷ ages) 0 (suc i) d up (omega arith) l in
    let is = slice_cmp-IsAntisymmetric nat_cmp-IsAntisymmetric (get_or ages i d).owner name same in
    ap (option_map (λ (heard : OwnerAge). heard.age)) (cond-false _ _ _ (apart-from_Less a.owner name (rw is at less))) ∙ found name ages i d (sorted_tail by_owner a ages up) (omega arith) same

missing : (name : List ℕ) (ages : List OwnerAge) → ((k : ℕ) (d : OwnerAge) → k < length ages → pointwise nat_eq (get_or ages k d).owner name ≡ false) → age_of name ages ≡ None
missing name [] apart = refl
missing name (a ∷ ages) apart = ap (option_map (λ (heard : OwnerAge). heard.age)) (cond-false _ _ _ (apart 0 a (omega arith))) ∙ missing name ages (λ k d l. apart (suc k) d (omega arith))

searchable : (name : List ℕ) (ages : List OwnerAge) → IsStrictlySortedBy by_owner ages → IsNonDecreasingBy (λ (a : OwnerAge). ordering_index (slice_cmp nat_cmp a.owner name)) ages
searchable name ages up = searchable_from_sorted nat_list_cmp_total (λ (a : OwnerAge). a.owner) ages name (λ k d _ l. ap is_lt (by_owner_total.antisymm (get_or ages (k + 1) d) (get_or ages k d) ∙ ap ordering_reverse (Less-from_sorted by_owner ages k (k + 1) d up (omega arith) l)))

-- the age of the owner is that where it was found
pub age-found : (name : List ℕ) (ages : List OwnerAge) (i : ℕ) (a : OwnerAge) → are_ages ages ≡ true → IsSearchInRange (Ok i) (length ages) → IsBinarySearchResult (λ (h : OwnerAge). slice_cmp nat_cmp h.owner name) ages (Ok i) → a ≡ get_or ages i a → age_of name ages ≡ Some a.age
age-found name ages i a are l same at = found name ages i a (rises_from_are_ages ages are) l (same a) ∙ ap (λ (h : OwnerAge). Some h.age) (sym at)

-- the owner has no age
pub age-missing : (name : List ℕ) (ages : List OwnerAge) (i : ℕ) → are_ages ages ≡ true → IsSearchInRange (Err i) (length ages) → IsBinarySearchResult (λ (h : OwnerAge). slice_cmp nat_cmp h.owner name) ages (Err i) → age_of name ages ≡ None
age-missing name ages i are l parted =
    let up = rises_from_are_ages ages are in
    let parts = parted (searchable name ages up) in
    missing name ages (λ k d in_range. elim (cases_lt k i) [
      | inl below ↦ apart-from_Less _ name (parts.0 k d (omega arith) below)
      | inr above ↦ apart-from_Greater _ name (parts.1 k d above in_range)
    ])
