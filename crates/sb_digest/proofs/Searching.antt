-- A binary search among pairs whose owners ascend.
use Rattle.std.proofs.Common.{◌≡◌, ℕ, zero, suc, ◌+◌, ◌<◌, ◌≤◌, Bool, true, false, cond, List, [], ◌∷◌, length, get_or, count_by, Some, None, Ok, Err, refl, sym, ap, ap₂, subst, ◌∙◌, arith, Less, Equal, is_lt, is_le, nat_cmp, nat_eq, inl, inr}
use Rattle.std.specs.Ordering.{ordering_index, ordering_reverse}
use Rattle.std.specs.Cmp.Lexicographic.{slice_cmp, pointwise}
use Rattle.std.specs.List.Sorted.{IsStrictlySortedBy, IsSearchInRange, IsBinarySearchResult, IsNonDecreasingBy}
use Rattle.std.specs.FinMap.{slice_cmp-IsAntisymmetric, nat_cmp-IsAntisymmetric}
use Rattle.std.proofs.lemmas.Bool.{cond-true, cond-false, cases_lt, and_parts}
use Rattle.std.proofs.lemmas.Cmp.{nat_list_cmp_total, tied_itself}
use Rattle.std.proofs.lemmas.List.Sorted.{searchable_from_sorted}
use Rattle.std.proofs.lemmas.List.Sums.{sum_by-cons}
use Rattle.std.proofs.lemmas.Map.Keys.{Less-from_sorted, sorted_tail}
use Rattle.sb_digest.specs.Digests.{Pair, Digest, pair_at, at_or_below}
use Rattle.sb_digest.specs.Limits.{are_pairs_above, is_range, are_digest_parts, is_digest}
use Rattle.sb_types.proofs.Texts.{apart-from_Less, apart-from_Greater, same-from_Equal, same_text}
use Rattle.sb_digest.proofs.Ascending.{by_owner, by_owner_total, rises_from_above}

found : (name : List ℕ) (ps : List Pair) (i : ℕ) (d : Pair) → IsStrictlySortedBy by_owner ps → i < length ps → slice_cmp nat_cmp (get_or ps i d).owner name ≡ Equal → pair_at name ps ≡ Some (get_or ps i d)
found name [] i d rises l same = absurd (omega arith)
found name (p ∷ ps) zero d rises l same = cond-true _ _ _ (same-from_Equal p.owner name same)
found name (p ∷ ps) (suc i) d rises l same =
    let less : slice_cmp nat_cmp p.owner (get_or ps i d).owner ≡ Less = Less-from_sorted by_owner (p ∷ ps) 0 (suc i) d rises (omega arith) l in
    let is = slice_cmp-IsAntisymmetric nat_cmp-IsAntisymmetric (get_or ps i d).owner name same in
    cond-false _ _ _ (apart-from_Less p.owner name (rw is at less)) ∙ found name ps i d (sorted_tail by_owner p ps rises) (omega arith) same

-- no pair is the name's
pub missing : (name : List ℕ) (ps : List Pair) → ((k : ℕ) (d : Pair) → k < length ps → pointwise nat_eq (get_or ps k d).owner name ≡ false) → pair_at name ps ≡ None
missing name [] apart = refl
missing name (p ∷ ps) apart = cond-false _ _ _ (apart 0 p (omega arith)) ∙ missing name ps (λ k d l. apart (suc k) d (omega arith))

searchable : (name : List ℕ) (ps : List Pair) → IsStrictlySortedBy by_owner ps → IsNonDecreasingBy (λ (p : Pair). ordering_index (slice_cmp nat_cmp p.owner name)) ps
searchable name ps rises = searchable_from_sorted nat_list_cmp_total (λ (p : Pair). p.owner) ps name (λ k d _ l. ap is_lt (by_owner_total.antisymm (get_or ps (k + 1) d) (get_or ps k d) ∙ ap ordering_reverse (Less-from_sorted by_owner ps k (k + 1) d rises (omega arith) l)))

-- the pair of the name stands where it was found
found_at : (name : List ℕ) (ps : List Pair) (i : ℕ) (d : Pair) → are_pairs_above [] ps ≡ true → IsSearchInRange (Ok i) (length ps) → IsBinarySearchResult (λ p. slice_cmp nat_cmp p.owner name) ps (Ok i) → pair_at name ps ≡ Some (get_or ps i d)
found_at name ps i d up l same = found name ps i d (rises_from_above [] ps up) l (same d)

-- the name has no pair
not_found : (name : List ℕ) (ps : List Pair) (i : ℕ) → are_pairs_above [] ps ≡ true → IsSearchInRange (Err i) (length ps) → IsBinarySearchResult (λ p. slice_cmp nat_cmp p.owner name) ps (Err i) → pair_at name ps ≡ None
not_found name ps i up l parted =
    let rises = rises_from_above [] ps up in
    let parts = parted (searchable name ps rises) in
    missing name ps (λ k d in_range. elim (cases_lt k i) [
      | inl below ↦ apart-from_Less _ name (parts.0 k d (omega arith) below)
      | inr above ↦ apart-from_Greater _ name (parts.1 k d above in_range)
    ])

-- of as many pairs as pass, and then none, so many are counted
counted : (p : Pair → Bool) (ps : List Pair) (m : ℕ) → m ≤ length ps → ((k : ℕ) (d : Pair) → k < m → p (get_or ps k d) ≡ true) → ((k : ℕ) (d : Pair) → m ≤ k → k < length ps → p (get_or ps k d) ≡ false) → count_by p ps ≡ m
counted p [] m l pass fail = omega arith
counted p (x ∷ ps) zero l pass fail =
    let more = sum_by-cons (λ (y : Pair). cond (p y) 1 0) x ps in
    let rest = counted p ps zero (omega arith) (λ k d b. absurd (omega (arith, b))) (λ k d a b. fail (suc k) d (omega arith) (omega arith)) in
    more ∙ ap₂ (λ b n. cond b 1 0 + n) (fail 0 x (omega arith) (omega arith)) rest
counted p (x ∷ ps) (suc m) l pass fail =
    let more = sum_by-cons (λ (y : Pair). cond (p y) 1 0) x ps in
    let rest = counted p ps m (omega arith) (λ k d b. pass (suc k) d (omega arith)) (λ k d a b. fail (suc k) d (omega arith) (omega arith)) in
    more ∙ ap₂ (λ b n. cond b 1 0 + n) (pass 0 x (omega arith)) rest ∙ omega arith

-- as many pairs are at or below a name as stand up to its own
behind-found : (name : List ℕ) (ps : List Pair) (i : ℕ) → are_pairs_above [] ps ≡ true → i < length ps → ((d : Pair) → slice_cmp nat_cmp (get_or ps i d).owner name ≡ Equal) → at_or_below name ps ≡ i + 1
behind-found name ps i up l same =
    let rises = rises_from_above [] ps up in
    let is : (d : Pair) → (get_or ps i d).owner ≡ name = λ d. slice_cmp-IsAntisymmetric nat_cmp-IsAntisymmetric (get_or ps i d).owner name (same d) in
    counted (λ (p : Pair). is_le (slice_cmp nat_cmp p.owner name)) ps (i + 1) (omega arith)
    (λ k d b. elim (cases_lt k i) [
      | inl below ↦ ap is_le (ap (slice_cmp nat_cmp (get_or ps k d).owner) (sym (is d)) ∙ Less-from_sorted by_owner ps k i d rises below l)
      | inr above ↦ let at : k ≡ i = omega arith in ap (λ n. is_le (slice_cmp nat_cmp (get_or ps n d).owner name)) at ∙ ap is_le (same d)
    ])
    (λ k d a b. ap is_le (ap (slice_cmp nat_cmp (get_or ps k d).owner) (sym (is d)) ∙ by_owner_total.antisymm (get_or ps k d) (get_or ps i d) ∙ ap ordering_reverse (Less-from_sorted by_owner ps i k d rises (omega arith) b)))

-- and where it has none, as many as stand before the place of insertion
before-missing : (name : List ℕ) (ps : List Pair) (i : ℕ) → are_pairs_above [] ps ≡ true → IsSearchInRange (Err i) (length ps) → IsBinarySearchResult (λ p. slice_cmp nat_cmp p.owner name) ps (Err i) → at_or_below name ps ≡ i
before-missing name ps i up l parted =
    let parts = parted (searchable name ps (rises_from_above [] ps up)) in
    counted (λ (p : Pair). is_le (slice_cmp nat_cmp p.owner name)) ps i l (λ k d b. ap is_le (parts.0 k d (omega (arith, l)) b)) (λ k d a b. ap is_le (parts.1 k d a b))

pub above-from_is_digest : (d : Digest) → is_digest d ≡ true → are_pairs_above [] d.pairs ≡ true
above-from_is_digest d is =
    let parts = (and_parts _ (are_digest_parts d) is).1 in
    (and_parts (is_range d.from d.until) _ (and_parts _ _ (and_parts _ _ parts).0).0).1

pub pair-found : (d : Digest) (name : List ℕ) (i : ℕ) (p : Pair) → is_digest d ≡ true → IsSearchInRange (Ok i) (length d.pairs) → IsBinarySearchResult (λ p. slice_cmp nat_cmp p.owner name) d.pairs (Ok i) → p ≡ get_or d.pairs i p → pair_at name d.pairs ≡ Some p
pair-found d name i p is l same at = found_at name d.pairs i p (above-from_is_digest d is) l same ∙ ap Some (sym at)

pub pair-missing : (d : Digest) (name : List ℕ) (i : ℕ) → is_digest d ≡ true → IsSearchInRange (Err i) (length d.pairs) → IsBinarySearchResult (λ p. slice_cmp nat_cmp p.owner name) d.pairs (Err i) → pair_at name d.pairs ≡ None
pair-missing d name i is l parted = not_found name d.pairs i (above-from_is_digest d is) l parted

equal-at : (ps : List Pair) (name : List ℕ) (i : ℕ) (p : Pair) → ((e : Pair) → p ≡ get_or ps i e) → pointwise nat_eq p.owner name ≡ true → (e : Pair) → slice_cmp nat_cmp (get_or ps i e).owner name ≡ Equal
equal-at ps name i p at same e =
    let equal : slice_cmp nat_cmp p.owner name ≡ Equal = subst (λ n. slice_cmp nat_cmp p.owner n ≡ Equal) (same_text p.owner name same) (tied_itself nat_list_cmp_total p.owner) in
    subst (λ q. slice_cmp nat_cmp q.owner name ≡ Equal) (at e) equal

-- the pair at a place is the name's
pub pair-there : (d : Digest) (name : List ℕ) (i : ℕ) (p : Pair) → is_digest d ≡ true → i < length d.pairs → ((e : Pair) → p ≡ get_or d.pairs i e) → pointwise nat_eq p.owner name ≡ true → pair_at name d.pairs ≡ Some p
pair-there d name i p is l at same = pair-found d name i p is l (equal-at d.pairs name i p at same) (at p)

pub place-found : (d : Digest) (name : List ℕ) (i : ℕ) → is_digest d ≡ true → IsSearchInRange (Ok i) (length d.pairs) → IsBinarySearchResult (λ p. slice_cmp nat_cmp p.owner name) d.pairs (Ok i) → at_or_below name d.pairs ≡ i + 1
place-found d name i is l same = behind-found name d.pairs i (above-from_is_digest d is) l same

pub place-missing : (d : Digest) (name : List ℕ) (i : ℕ) → is_digest d ≡ true → IsSearchInRange (Err i) (length d.pairs) → IsBinarySearchResult (λ p. slice_cmp nat_cmp p.owner name) d.pairs (Err i) → at_or_below name d.pairs ≡ i
place-missing d name i is l parted = before-missing name d.pairs i (above-from_is_digest d is) l parted

pub place-at : (d : Digest) (name : List ℕ) (i : ℕ) (p : Pair) → is_digest d ≡ true → i < length d.pairs → ((e : Pair) → p ≡ get_or d.pairs i e) → pointwise nat_eq p.owner name ≡ true → at_or_below name d.pairs ≡ i + 1
place-at d name i p is l at same = behind-found name d.pairs i (above-from_is_digest d is) l (equal-at d.pairs name i p at same)
