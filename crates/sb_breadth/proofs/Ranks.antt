-- Owners that take turns, each with one entry, send by rank.
use Rattle.std.proofs.Common.{◌≡◌, ℕ, zero, suc, ◌+◌, ◌<◌, false, List, [], ◌∷◌, ◌++◌, length, get_or, ◌⊎◌, inl, inr, ⊎_elim, refl, sym, ap, ◌∙◌, arith, Less, Equal, is_lt, IsSorted}
use Rattle.std.specs.Prelude.{All, AllPairs}
use Rattle.std.specs.Ordering.{nat_cmp, ordering_then, ordering_reverse}
use Rattle.std.specs.Cmp.{IsTotalOrder}
use Rattle.std.specs.Cmp.Lexicographic.{slice_cmp}
use Rattle.std.proofs.lemmas.Bool.{lt-ltb, cond-true}
use Rattle.std.proofs.lemmas.Cmp.{nat_cmp_total, nat_list_cmp_total, on_total, then_total, tied_itself}
use Rattle.std.proofs.lemmas.List.Elements.{All-push}
use Rattle.sb_holdings.specs.Held.{Held}
use Rattle.sb_digest.specs.Digests.{Digest}
use Rattle.sb_budget.specs.declared.offered.Offered.{Offered}
use Rattle.sb_budget.specs.declared.turns.Turns.TheVariants as turns
use Rattle.sb_budget.specs.Orders.{AscendsByOwner}
use Rattle.sb_budget.specs.Parts.{Part, all_of, IsChain, AreParts}
use Rattle.sb_budget.specs.Turns.{parts_after_turn, first_turns, in_turns}
use Rattle.sb_budget.proofs.OrderLemmas.{Before, sorted_ascends}
use Rattle.sb_budget.proofs.ListingLemmas.{sorted_cons, pairs_push}
use Rattle.sb_budget.proofs.TurnLemmas.{in_turns_all}
use Rattle.sb_breadth.specs.Breadth.{by_rank}

pub by_rank_total : IsTotalOrder by_rank
by_rank_total = then_total (on_total (λ (x : Offered). x.rank) nat_cmp_total) (on_total (λ (x : Offered). x.owner) nat_list_cmp_total)

pub follows : (x y : Offered) → x.owner ≡ y.owner → Before x y → by_rank x y ≡ Less
follows x y same b = ap (λ o. ordering_then o (slice_cmp nat_cmp x.owner y.owner)) (cond-true _ _ _ (lt-ltb x.rank y.rank b.1))

-- the smaller rank, or the same and the name that is first
abbrev Ahead : ℕ → List ℕ → ℕ → List ℕ → Type 0
Ahead r m s n = (r < s) ⊎ ((r ≡ s) × (slice_cmp nat_cmp m n ≡ Less))

ahead_less : (x y : Offered) → Ahead x.rank x.owner y.rank y.owner → is_lt (by_rank y x) ≡ false
ahead_less x y ahead = ap is_lt (by_rank_total.antisymm y x ∙ ap ordering_reverse less)
  where
    less : by_rank x y ≡ Less
    less = ⊎_elim
        (λ l. ap (λ o. ordering_then o (slice_cmp nat_cmp x.owner y.owner)) (cond-true _ _ _ (lt-ltb x.rank y.rank l)))
        (λ same. ap (λ o. ordering_then o (slice_cmp nat_cmp x.owner y.owner)) (ap (nat_cmp x.rank) (sym same.0) ∙ tied_itself nat_cmp_total x.rank) ∙ same.1)
        ahead

-- the second owner's turn comes before the first has its next
abbrev Near : Part → Part → Type 0
Near p q = Ahead p.next.rank p.next.owner q.next.rank q.next.owner × Ahead q.next.rank q.next.owner (p.next.rank + 1) p.next.owner

record AreNear (owners : List Part) : Type 0 where
  near : AllPairs Near owners
  chains : All (λ p. IsChain p.next p.later) owners

module _ (p : Part) (others : List Part) (are : AreNear (p ∷ others)) where
  near_others : All (Near p) others
  near_others k d l = are.near 0 (suc k) d (omega arith) (omega arith)

  rest_near : AreNear others
  rest_near = record { near = λ i j d l k. are.near (suc i) (suc j) d (omega arith) (omega arith); chains = λ k d l. are.chains (suc k) d (omega arith) }

  again : (o : Offered) (os : List Offered) → IsChain p.next (o ∷ os) → (q : Part) → Near p q → Near q (record { next = o; later = os })
  again o os chain q near = (
    ⊎_elim (λ l. inl (omega (arith, l, chain.0.1))) (λ same. inr (omega (arith, same.0, chain.0.1), ap (slice_cmp nat_cmp q.next.owner) chain.0.0 ∙ same.1)) near.1,
    ⊎_elim (λ l. inl (omega (arith, l, chain.0.1))) (λ same. inr (omega (arith, same.0, chain.0.1), ap (λ m. slice_cmp nat_cmp m q.next.owner) chain.0.0 ∙ same.1)) near.0,
  )

  rejoined_near : (later : List Offered) → IsChain p.next later → AreNear (parts_after_turn turns.Last others later)
  rejoined_near [] chain = rest_near
  rejoined_near (o ∷ os) chain =
      let part : Part = record { next = o; later = os } in
      record {
        near = pairs_push Near others part rest_near.near (λ k d l. again o os chain (get_or others k d) (near_others k d l));
        chains = All-push (λ q. IsChain q.next q.later) others part rest_near.chains chain.1;
      }

  -- none of the others is to be sent before
  rejoined_behind : (later : List Offered) → IsChain p.next later → All (λ q. is_lt (by_rank q.next p.next) ≡ false) (parts_after_turn turns.Last others later)
  rejoined_behind [] chain = λ k d l. ahead_less p.next (get_or others k d).next (near_others k d l).0
  rejoined_behind (o ∷ os) chain = All-push (λ q. is_lt (by_rank q.next p.next) ≡ false) others (record { next = o; later = os })
      (λ k d l. ahead_less p.next (get_or others k d).next (near_others k d l).0)
      (ahead_less p.next o (inl (omega (arith, chain.0.1))))

first_of : (R : Offered → Type 0) (n : ℕ) (owners : List Part) → All (λ p. R p.next) owners → (d : Offered) → 0 < length (first_turns turns.Last n owners) → R (get_or (first_turns turns.Last n owners) 0 d)
first_of R zero owners all d l = absurd (omega arith)
first_of R (suc n) [] all d l = absurd (omega arith)
first_of R (suc n) (p ∷ others) all d l = all 0 p (omega arith)

turns_sorted : (n : ℕ) (owners : List Part) → AreNear owners → IsSorted by_rank (first_turns turns.Last n owners)
turns_sorted zero owners are = λ k d low l. absurd (omega arith)
turns_sorted (suc n) [] are = λ k d low l. absurd (omega arith)
turns_sorted (suc n) (p ∷ others) are =
    let chain = are.chains 0 p (omega arith) in
    let rest = parts_after_turn turns.Last others p.later in
    sorted_cons (λ x y. is_lt (by_rank x y)) p.next (first_turns turns.Last n rest)
    (first_of (λ y. is_lt (by_rank y p.next) ≡ false) n rest (rejoined_behind p others are p.later chain))
    (turns_sorted n rest (rejoined_near p others are p.later chain))

module _ {held : Held} {digest : Digest} {parts : List Part} (are : AreParts held digest parts) where
  parts_near : AreNear parts
  parts_near = record {
    near = λ i j d l k. (
      inr (omega (arith, (are.chains i d (omega arith)).0, (are.chains j d k).0), are.names i j d l k),
      inl (omega (arith, (are.chains i d (omega arith)).0, (are.chains j d k).0)),
    );
    chains = λ k d l. (are.chains k d l).1;
  }

  pub in_turns_sorted : IsSorted by_rank (in_turns turns.Last parts)
  in_turns_sorted = turns_sorted (length (all_of parts)) parts parts_near

  pub in_turns_ascends : AscendsByOwner (in_turns turns.Last parts)
  in_turns_ascends = sorted_ascends by_rank_total follows (all_of parts) (in_turns turns.Last parts) are.offer (in_turns_all turns.Last parts) in_turns_sorted
