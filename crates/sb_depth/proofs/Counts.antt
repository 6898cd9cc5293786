-- Owners that come to their end one after another send by count.
use Rattle.std.proofs.Common.{◌≡◌, ℕ, zero, suc, ◌+◌, ◌<◌, ◌≤◌, Bool, true, false, not, List, [], ◌∷◌, ◌++◌, length, get_or, ◌⊎◌, inl, inr, ⊎_elim, refl, sym, ap, ap₂, subst, ◌∙◌, arith, Ordering, Less, Equal, Greater, is_lt, nat_eq, true≢false, IsSorted, IsPermutation}
use Rattle.std.specs.Prelude.{All, AllPairs}
use Rattle.std.specs.List.Sorted.{IsSortedByKey}
use Rattle.std.specs.Ordering.{nat_cmp, ordering_then, ordering_reverse}
use Rattle.std.specs.Cmp.{IsTotalOrder}
use Rattle.std.specs.Cmp.Lexicographic.{slice_cmp, pointwise}
use Rattle.std.proofs.lemmas.Bool.{lt-ltb, cond-true, false_from_ne_true}
use Rattle.std.proofs.lemmas.Cmp.{nat_cmp_total, nat_list_cmp_total, on_total, then_total, back_total, tied_itself, lists_equiv, nat_eq_equiv}
use Rattle.std.proofs.lemmas.List.Sorted.{All-permutation, ranks_by, sorted_far}
use Rattle.std.proofs.lemmas.Map.Keys.{IsDistinct-IsPermutation, IsDistinct-from_apart, apart_from_distinct}
use Rattle.sb_types.proofs.Texts.{same_text, text_same}
use Rattle.sb_types.specs.Records.{Block}
use Rattle.sb_holdings.specs.Held.{Held}
use Rattle.sb_digest.specs.Digests.{Digest}
use Rattle.sb_budget.specs.declared.offered.Offered.{Offered}
use Rattle.sb_budget.specs.declared.turns.Turns.TheVariants as turns
use Rattle.sb_budget.specs.Orders.{version_of, AscendsByOwner}
use Rattle.sb_budget.specs.Available.{available_for}
use Rattle.sb_budget.specs.Cut.{items_of_all, IsCut, CanCut}
use Rattle.sb_budget.specs.Parts.{Part, all_of, IsNextAfter, IsChain, AreParts, IsDeltaBy}
use Rattle.sb_budget.specs.Turns.{in_turns}
use Rattle.sb_budget.proofs.OrderLemmas.{Before, sorted_ascends}
use Rattle.sb_budget.proofs.PlaceLemmas.{same_from_Equal}
use Rattle.sb_budget.proofs.ListingLemmas.{sorted_cons, listing_can_cut, listing_delta, listing_length}
use Rattle.sb_budget.proofs.TurnLemmas.{in_turns_first, parts_moved}
use Rattle.sb_depth.specs.Depth.{by_count}

pub by_count_total : IsTotalOrder by_count
by_count_total = then_total (then_total (on_total (λ (x : Offered). x.count) (back_total nat_cmp_total)) (on_total (λ (x : Offered). x.owner) nat_list_cmp_total)) (on_total (λ (x : Offered). version_of x) nat_cmp_total)

pub follows : (x y : Offered) → x.owner ≡ y.owner → Before x y → by_count x y ≡ Less
follows x y same b =
    let counts : nat_cmp y.count x.count ≡ Equal = ap (nat_cmp y.count) b.2 ∙ tied_itself nat_cmp_total y.count in
    let names : slice_cmp nat_cmp x.owner y.owner ≡ Equal = ap (slice_cmp nat_cmp x.owner) (sym same) ∙ tied_itself nat_list_cmp_total x.owner in
    let versions : nat_cmp (version_of x) (version_of y) ≡ Less = cond-true _ _ _ (lt-ltb (version_of x) (version_of y) b.0) in
    ap₂ ordering_then (ap₂ ordering_then counts names) versions

-- the owner with the greater count first, of equal count the one whose name is first
abbrev pub by_key : Offered → Offered → Ordering
by_key x y = ordering_then (nat_cmp y.count x.count) (slice_cmp nat_cmp x.owner y.owner)

pub by_key_total : IsTotalOrder by_key
by_key_total = then_total (on_total (λ (x : Offered). x.count) (back_total nat_cmp_total)) (on_total (λ (x : Offered). x.owner) nat_list_cmp_total)

no_less : (x y : Offered) → by_count x y ≡ Less → is_lt (by_count y x) ≡ false
no_less x y less = ap is_lt (by_count_total.antisymm y x ∙ ap ordering_reverse less)

next_less : (x y : Offered) → IsNextAfter x y → by_count x y ≡ Less
next_less x y next =
    let counts : nat_cmp y.count x.count ≡ Equal = ap (nat_cmp y.count) (sym next.2) ∙ tied_itself nat_cmp_total y.count in
    let names : slice_cmp nat_cmp x.owner y.owner ≡ Equal = ap (slice_cmp nat_cmp x.owner) next.0 ∙ tied_itself nat_list_cmp_total x.owner in
    let versions : nat_cmp (version_of x) (version_of y) ≡ Less = cond-true _ _ _ (lt-ltb (version_of x) (version_of y) next.3) in
    ap₂ ordering_then (ap₂ ordering_then counts names) versions

-- the items of one owner, and then others that come behind each of the owner's
chain_sorted : (x : Offered) (os rest : List Offered) → IsChain x os → IsSorted by_count rest →
    ((y : Offered) (d : Offered) → y.owner ≡ x.owner → y.count ≡ x.count → 0 < length rest → is_lt (by_count (get_or rest 0 d) y) ≡ false) → IsSorted by_count (x ∷ (os ++ rest))
chain_sorted x [] rest chain sorted behind = sorted_cons (λ a b. is_lt (by_count a b)) x rest (λ d l. behind x d refl refl l) sorted
chain_sorted x (o ∷ os) rest chain sorted behind =
    sorted_cons (λ a b. is_lt (by_count a b)) x (o ∷ (os ++ rest)) (λ d l. no_less x o (next_less x o chain.0))
    (chain_sorted o os rest chain.1 sorted (λ y d owner count l. behind y d (owner ∙ chain.0.0) (count ∙ chain.0.2) l))

key_less : (x y z : Offered) → by_key x z ≡ Less → y.owner ≡ x.owner → y.count ≡ x.count → is_lt (by_count z y) ≡ false
key_less x y z less owner count =
    no_less y z (ap (λ o. ordering_then o (nat_cmp (version_of y) (version_of z))) (ap₂ (λ n m. ordering_then (nat_cmp z.count n) (slice_cmp nat_cmp m z.owner)) count owner ∙ less))

parts_sorted : (parts : List Part) → AllPairs (λ p q. by_key p.next q.next ≡ Less) parts → All (λ p. IsChain p.next p.later) parts → IsSorted by_count (all_of parts)
parts_sorted [] apart chains = λ k d low l. absurd (omega arith)
parts_sorted (p ∷ others) apart chains =
    chain_sorted p.next p.later (all_of others) (chains 0 p (omega arith))
    (parts_sorted others (λ i j d l k. apart (suc i) (suc j) d (omega arith) (omega arith)) (λ k d l. chains (suc k) d (omega arith)))
    (λ y d owner count l. first others (λ k d l. apart 0 (suc k) d (omega arith) (omega arith)) y d owner count l)
  where
    first : (qs : List Part) → All (λ q. by_key p.next q.next ≡ Less) qs → (y d : Offered) → y.owner ≡ p.next.owner → y.count ≡ p.next.count → 0 < length (all_of qs) → is_lt (by_count (get_or (all_of qs) 0 d) y) ≡ false
    first [] all y d owner count l = absurd (omega arith)
    first (q ∷ qs) all y d owner count l = key_less p.next y q.next (all 0 q (omega arith)) owner count

-- ---- after the sort by count and name

clash : Part → Part → Bool
clash p q = pointwise nat_eq p.next.owner q.next.owner

clash_flips : (p q : Part) → clash p q ≡ clash q p
unfolding clash
clash_flips p q = (lists_equiv nat_eq_equiv).symm p.next.owner q.next.owner

module _ {held : Held} {digest : Digest} {parts sorted : List Part} (are : AreParts held digest parts) (moved : IsPermutation parts sorted) (up : IsSortedByKey (λ (p : Part). p.next) by_key sorted) where
  no_clash : (p q : Part) → slice_cmp nat_cmp p.next.owner q.next.owner ≡ Less → clash p q ≡ false
  unfolding clash
  no_clash p q less = false_from_ne_true _ (λ same. apart (slice_cmp nat_cmp p.next.owner q.next.owner) less (ap (slice_cmp nat_cmp p.next.owner) (sym (same_text p.next.owner q.next.owner same)) ∙ tied_itself nat_list_cmp_total p.next.owner))
    where
      apart : (r : Ordering) → r ≡ Less → r ≡ Equal → ⊥
      apart r less tied = cc

  names_apart : (i j : ℕ) (d : Part) → i < j → j < length sorted → clash (get_or sorted i d) (get_or sorted j d) ≡ false
  names_apart i j d l k =
      apart_from_distinct clash sorted i j d (IsDistinct-IsPermutation clash clash_flips parts sorted moved (IsDistinct-from_apart clash parts (λ i j d l k. no_clash _ _ (are.names i j d l k)))) l k

  less_or_same : (x y : Offered) (r : Ordering) → by_key x y ≡ r → is_lt (by_key y x) ≡ false → pointwise nat_eq x.owner y.owner ≡ false → by_key x y ≡ Less
  less_or_same x y Less e none other = e
  less_or_same x y Equal e none other = absurd (true≢false (sym (text_same x.owner y.owner (same_from_Equal x.owner y.owner (second (nat_cmp y.count x.count) (slice_cmp nat_cmp x.owner y.owner) e))) ∙ other))
    where
      second : (a b : Ordering) → ordering_then a b ≡ Equal → b ≡ Equal
      second Equal b e = e
      second Less b e = cc
      second Greater b e = cc
  less_or_same x y Greater e none other = absurd (true≢false (sym (ap is_lt (by_key_total.antisymm y x ∙ ap ordering_reverse e)) ∙ none))

  keys_apart : AllPairs (λ p q. by_key p.next q.next ≡ Less) sorted
  unfolding clash
  keys_apart i j d l k =
      let x = (get_or sorted i d).next in
      let y = (get_or sorted j d).next in
      less_or_same x y (by_key x y) refl (sorted_far _ (ranks_by by_key_total (λ (p : Part). p.next)) sorted up i j d (omega arith) k) (names_apart i j d l k)

  pub sorted_by_count : IsSorted by_count (all_of sorted)
  sorted_by_count = parts_sorted sorted keys_apart (λ k d l. (All-permutation (λ (p : Part). (p.next.rank ≡ 0) × IsChain p.next p.later) parts sorted moved are.chains k d l).1)

  moved_turns : IsPermutation (all_of parts) (in_turns turns.First sorted)
  moved_turns = subst (IsPermutation (all_of parts)) (sym (in_turns_first sorted)) (parts_moved parts sorted moved)

  turns_sorted : IsSorted by_count (in_turns turns.First sorted)
  turns_sorted = subst (IsSorted by_count) (sym (in_turns_first sorted)) sorted_by_count

  turns_ascend : AscendsByOwner (in_turns turns.First sorted)
  turns_ascend = sorted_ascends by_count_total follows (all_of parts) (in_turns turns.First sorted) are.offer moved_turns turns_sorted

  pub turns_can_cut : CanCut (in_turns turns.First sorted)
  turns_can_cut = listing_can_cut are (in_turns turns.First sorted) moved_turns turns_ascend

  pub sorted_delta : (budget : ℕ) (delta : List Block) → IsCut budget (items_of_all (in_turns turns.First sorted)) delta → IsDeltaBy (IsSorted by_count) budget held digest delta
  sorted_delta budget delta cut = listing_delta are (in_turns turns.First sorted) moved_turns turns_ascend (IsSorted by_count) budget delta turns_sorted cut

  pub ascending_delta : (budget : ℕ) (delta : List Block) → IsCut budget (items_of_all (in_turns turns.First sorted)) delta → IsDeltaBy AscendsByOwner budget held digest delta
  ascending_delta budget delta cut = listing_delta are (in_turns turns.First sorted) moved_turns turns_ascend AscendsByOwner budget delta turns_ascend cut

  pub turns_length : length (in_turns turns.First sorted) ≡ length (available_for held digest)
  turns_length = listing_length are (in_turns turns.First sorted) moved_turns turns_ascend
