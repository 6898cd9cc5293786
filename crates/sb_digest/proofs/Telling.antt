-- What the pairs of what is held tell of an owner.
use Rattle.std.proofs.Common.{◌≡◌, ℕ, zero, suc, ◌≤◌, ◌<◌, Bool, true, false, ◌&&◌, List, [], ◌∷◌, map, take, length, get_or, Option, Some, None, refl, sym, ap, ◌∙◌, subst, arith, inl, inr, nat_cmp, nat_eq, Ordering, Less, Equal, Greater, is_lt}
use Rattle.std.specs.Prelude.{filter, cond, unwrap_or}
use lib.Dec.{T}
use Rattle.std.specs.List.{slice_get, AllByRecursion}
use Rattle.std.specs.List.Sorted.{IsStrictlySortedBy}
use Rattle.std.specs.Option.{option_map, option_map_or}
use Rattle.std.specs.Ordering.{eq_by_cmp}
use Rattle.std.specs.Cmp.Lexicographic.{slice_cmp, pointwise, texts_ties}
use Rattle.std.specs.FinMap.{get, entries, entries_sorted, get-entries, is_sorted, find}
use Rattle.std.specs.FinMap.Entries.{below_all, is_sorted-where_key}
use Rattle.std.proofs.lemmas.Bool.{and_parts, cases_order, true≢false}
use Rattle.std.proofs.lemmas.Bool.Decides.{nat_tests}
use Rattle.std.proofs.lemmas.Cmp.{nat_list_cmp_total, nat_list_eq_equiv}
use Rattle.std.proofs.lemmas.Map.Keys.{Less-from_sorted, sorted_tail}
use Rattle.sb_types.specs.Records.{Holder}
use Rattle.sb_types.specs.Limits.{text_lt}
use Rattle.sb_holdings.specs.Held.{Held, empty_holder, holder_of}
use Rattle.sb_holdings.specs.Plain.{is_from}
use Rattle.sb_digest.specs.Digests.{Pair, Digest, is_below, covers, pair_at, held_in, number_by, number_in, floor_by, floor_in}
use Rattle.sb_digest.specs.Lengths.{digest_frame_length}
use Rattle.sb_digest.specs.Builders.{digest_of_first, IsLongestFront}
use Rattle.sb_digest.specs.Pairs.{pair_of, pairs_from}
use Rattle.sb_types.proofs.Texts.{Less-from_text_lt, apart-from_Less, same_text}
use Rattle.sb_digest.proofs.Ascending.{by_owner}
use Rattle.sb_digest.proofs.Searching.{missing}

pub one_longest : (budget : ℕ) (want : Bool) (from : Option (List ℕ)) (pairs : List Pair) (a b : Digest) → IsLongestFront budget want from pairs a → IsLongestFront budget want from pairs b → a ≡ b
one_longest budget want from pairs a b p q = elim (cases_order p.count q.count) [
  | inl same ↦ p.front ∙ ap (digest_of_first want from pairs) same ∙ sym q.front
  | inr (inl less) ↦ absurd (omega (arith, p.longest q.count less q.most, q.fits, ap digest_frame_length q.front))
  | inr (inr more) ↦ absurd (omega (arith, q.longest p.count more p.most, p.fits, ap digest_frame_length p.front))
]

-- the owners' entries
abbrev told : List (List ℕ × Holder) → List Pair
told es = map pair_of es

abbrev version_of : Option Pair → ℕ
version_of o = option_map_or (λ (p : Pair). p.held) o 0

-- the pair of an owner whose holder was found
abbrev found_pair : List ℕ → Option Holder → Option Pair
found_pair owner found = option_map (λ (h : Holder). pair_of (owner, h)) found

-- an owner that is passed is found among the passed as among all
found_passed : (test : List ℕ → Bool) (owner : List ℕ) → test owner ≡ true → (es : List (List ℕ × Holder)) → pair_at owner (told (filter (λ e. test e.0) es)) ≡ found_pair owner (find (slice_cmp nat_cmp) owner es)
found_passed test owner passes [] = refl
found_passed test owner passes (e ∷ es) = go (pointwise nat_eq e.0 owner) (test e.0) refl refl (found_passed test owner passes es)
  where
    ties : eq_by_cmp (slice_cmp nat_cmp) owner e.0 ≡ pointwise nat_eq e.0 owner
    ties = sym (texts_ties owner e.0) ∙ nat_list_eq_equiv.symm owner e.0

    go : (same passed : Bool) → pointwise nat_eq e.0 owner ≡ same → test e.0 ≡ passed → pair_at owner (told (filter (λ e. test e.0) es)) ≡ found_pair owner (find (slice_cmp nat_cmp) owner es) →
        pair_at owner (told (cond passed (e ∷ filter (λ e. test e.0) es) (filter (λ e. test e.0) es))) ≡ found_pair owner (cond (eq_by_cmp (slice_cmp nat_cmp) owner e.0) (Some e.1) (find (slice_cmp nat_cmp) owner es))
    go true true same passed rest = rw (ties, same) (ap (λ (name : List ℕ). Some (pair_of (name, e.1))) (same_text e.0 owner same))
    go true false same passed rest = absurd (true≢false (sym passes ∙ ap test (sym (same_text e.0 owner same)) ∙ passed))
    go false true same passed rest = rw (ties, same) rest
    go false false same passed rest = rw (ties, same) rest

and_T : (a b : Bool) → T (a && b) → T a × T b
and_T true b h = (tt, h)
and_T false b h = absurd h

less : (r : Ordering) → T (is_lt r) → r ≡ Less
less Less h = refl
less Equal h = absurd h
less Greater h = absurd h

behind : (name : List ℕ) (es : List (List ℕ × Holder)) → T (below_all (slice_cmp nat_cmp) name es) → AllByRecursion (λ (p : Pair). slice_cmp nat_cmp name p.owner ≡ Less) (told es)
behind name [] below = tt
behind name (e ∷ es) below =
    let parts = and_T (is_lt (slice_cmp nat_cmp name e.0)) _ below in
    (less _ parts.0, behind name es parts.1)

rises_from_is_sorted : (es : List (List ℕ × Holder)) → T (is_sorted (slice_cmp nat_cmp) es) → IsStrictlySortedBy by_owner (told es)
unfolding IsStrictlySortedBy
rises_from_is_sorted [] up = tt
rises_from_is_sorted (e ∷ es) up =
    let parts = and_T (below_all (slice_cmp nat_cmp) e.0 es) (is_sorted (slice_cmp nat_cmp) es) up in
    (behind e.0 es parts.0, rises_from_is_sorted es parts.1)

-- no pair from the end of the range on is the owner's
past_end : (owner : List ℕ) (p : Pair) (ps : List Pair) (k : ℕ) (d : Pair) → text_lt owner p.owner ≡ true → IsStrictlySortedBy by_owner (p ∷ ps) → k < length (p ∷ ps) → pointwise nat_eq (get_or (p ∷ ps) k d).owner owner ≡ false
past_end owner p ps zero d before rises l = nat_list_eq_equiv.symm p.owner owner ∙ apart-from_Less owner p.owner (Less-from_text_lt owner p.owner before)
past_end owner p ps (suc k) d before rises l =
    let other = (get_or ps k d).owner in
    let later : slice_cmp nat_cmp p.owner other ≡ Less = Less-from_sorted by_owner (p ∷ ps) 0 (suc k) d rises (omega arith) l in
    nat_list_eq_equiv.symm other owner ∙ apart-from_Less owner other (nat_list_cmp_total.trans owner p.owner other (Less-from_text_lt owner p.owner before) later)

-- an owner below the end is found in the front as in all
cut_keeps : (owner : List ℕ) (ps : List Pair) (count : ℕ) → IsStrictlySortedBy by_owner ps → is_below (option_map (λ (p : Pair). p.owner) (slice_get ps count)) owner ≡ true → pair_at owner (take count ps) ≡ pair_at owner ps
cut_keeps owner [] zero rises below = refl
cut_keeps owner [] (suc count) rises below = refl
cut_keeps owner (p ∷ ps) zero rises below = sym (missing owner (p ∷ ps) (λ k d l. past_end owner p ps k d below rises l))
cut_keeps owner (p ∷ ps) (suc count) rises below = ap (λ o. cond (pointwise nat_eq p.owner owner) (Some p) o) (cut_keeps owner ps count (sorted_tail by_owner p ps rises) below)

number_of_nothing : (owner : List ℕ) (floor held : ℕ) → number_by floor held None ≡ number_by floor held (Some (pair_of (owner, empty_holder)))
number_of_nothing owner floor held = grind (arith, nat_tests)

floor_of_nothing : (owner : List ℕ) (floor held : ℕ) → floor_by floor held None ≡ floor_by floor held (Some (pair_of (owner, empty_holder)))
floor_of_nothing owner floor held = grind (arith, nat_tests)

-- a sender's floor is never lowered, and never raised above what it holds
floor_of_pair : (floor held : ℕ) (o : Option Pair) → floor ≤ held → (floor ≤ floor_by floor held o) × (floor_by floor held o ≤ held)
floor_of_pair floor held None l = grind (arith, nat_tests, l)
floor_of_pair floor held (Some p) l = grind (arith, nat_tests, l)

floor_kept : (floor held : ℕ) (o : Option Pair) → floor ≤ version_of o → floor_by floor held o ≡ floor
floor_kept floor held None l = grind (arith, nat_tests, l)
floor_kept floor held (Some p) l = grind (arith, nat_tests, l)

pub start-least : (d : Digest) (owner : List ℕ) (floor held : ℕ) → floor ≤ held → floor ≤ floor_in d owner floor held
start-least d owner floor held l = (floor_of_pair floor held (pair_at owner d.pairs) l).0

pub start-most : (d : Digest) (owner : List ℕ) (floor held : ℕ) → floor ≤ held → floor_in d owner floor held ≤ held
start-most d owner floor held l = (floor_of_pair floor held (pair_at owner d.pairs) l).1

pub start-own : (d : Digest) (owner : List ℕ) (floor held : ℕ) → floor ≤ held_in d owner → floor_in d owner floor held ≡ floor
start-own d owner floor held l = floor_kept floor held (pair_at owner d.pairs) l

-- the digest's pair of an owner that it covers is that of what is held of it
module _ (held : Held) (budget : ℕ) (want : Bool) (from : Option (List ℕ)) (d : Digest) (owner : List ℕ) (longest : IsLongestFront budget want from (pairs_from from held) d) (covered : covers d owner ≡ true) where
  pair-held : pair_at owner d.pairs ≡ found_pair owner (get held.owners owner)
  pair-held =
      let ps = pairs_from from held in
      let rises : IsStrictlySortedBy by_owner ps = rises_from_is_sorted _ (is_sorted-where_key (slice_cmp nat_cmp) (is_from from) (entries held.owners) (entries_sorted held.owners)) in
      let parts = and_parts (is_from from owner) _ (subst (λ (e : Digest). covers e owner ≡ true) longest.front covered) in
      ap (λ (e : Digest). pair_at owner e.pairs) longest.front ∙ cut_keeps owner ps longest.count rises parts.1 ∙ found_passed (is_from from) owner parts.0 (entries held.owners)
      ∙ ap (found_pair owner) (sym (get-entries held.owners owner))

  version-found : (o : Option Holder) → version_of (found_pair owner o) ≡ (unwrap_or o empty_holder).shown.held
  version-found None = refl
  version-found (Some h) = refl

  pub number-held : held_in d owner ≡ (holder_of held.owners owner).shown.held
  number-held = ap version_of pair-held ∙ version-found (get held.owners owner)

  -- of an owner that is not held the whole table is offered, as where nothing is said of it
  by-found : (floor upto : ℕ) (o : Option Holder) → number_by floor upto (found_pair owner o) ≡ number_by floor upto (Some (pair_of (owner, unwrap_or o empty_holder)))
  by-found floor upto None = number_of_nothing owner floor upto
  by-found floor upto (Some h) = refl

  pub number-above : (floor upto : ℕ) → number_in d owner floor upto ≡ number_by floor upto (Some (pair_of (owner, holder_of held.owners owner)))
  number-above floor upto = ap (number_by floor upto) pair-held ∙ by-found floor upto (get held.owners owner)

  under-found : (floor upto : ℕ) (o : Option Holder) → floor_by floor upto (found_pair owner o) ≡ floor_by floor upto (Some (pair_of (owner, unwrap_or o empty_holder)))
  under-found floor upto None = floor_of_nothing owner floor upto
  under-found floor upto (Some h) = refl

  pub floor-under : (floor upto : ℕ) → floor_in d owner floor upto ≡ floor_by floor upto (Some (pair_of (owner, holder_of held.owners owner)))
  floor-under floor upto = ap (floor_by floor upto) pair-held ∙ under-found floor upto (get held.owners owner)
