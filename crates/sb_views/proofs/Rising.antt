-- Rows in their order.
use Rattle.std.proofs.Common.{◌≡◌, ℕ, Bool, true, false, cond, ◌&&◌, T, List, [], ◌∷◌, ◌++◌, map, filter, Option, Some, refl, nat_eq, arith}
use Rattle.std.proofs.lemmas.Cmp.{nat_list_cmp_total, tied_itself}
use Rattle.std.proofs.lemmas.List.Kept.{AllPairs-cons, AllPairs-filter}
use Rattle.std.proofs.lemmas.List.Elements.{All-from_recursion}
use Rattle.std.specs.List.{AllByRecursion, starts_with}
use Rattle.std.specs.List.Sorted.{IsStrictlySortedBy}
use Rattle.std.specs.Map.{keys_of}
use Rattle.std.specs.Ordering.{is_lt}
use Rattle.std.specs.declared.cmp.Ordering.{Ordering}
use Rattle.std.specs.declared.cmp.Ordering.TheVariants.{Less, Equal, Greater}
use Rattle.std.specs.FinMap.{entries, entries_sorted, is_sorted}
use Rattle.std.specs.FinMap.Entries.{below_all}
use Rattle.sb_types.specs.Value.{Value}
use Rattle.sb_views.specs.NodeViews.{OwnerView, NodeView}
use Rattle.sb_views.specs.LiveRows.{LiveRow, row_at, rows_under, rows_of_owners, rows_in, rows_behind, is_wanted, is_behind, place_of, AreAscending}
use Rattle.sb_views.proofs.ByText.{by_text, Ascend}

-- the second row stands behind the first
abbrev pub Before : LiveRow → LiveRow → Type 0
Before x y = is_behind (Some (place_of x)) y ≡ true

both-parts : (a b : Bool) → T (a && b) → T a × T b
both-parts true b p = (tt, p)
both-parts false b p = absurd p

lt-T : (r : Ordering) → T (is_lt r) → r ≡ Less
lt-T Less p = refl
lt-T Equal p = absurd p
lt-T Greater p = absurd p

module _ {X : Type 0} where
  below-all : (q : List ℕ) (es : List (List ℕ × X)) → T (below_all by_text q es) → AllByRecursion (λ y. by_text q y ≡ Less) (keys_of es)
  below-all q [] t = tt
  below-all q (p ∷ ps) t = let parts = both-parts (is_lt (by_text q p.0)) (below_all by_text q ps) t in (lt-T (by_text q p.0) parts.0, below-all q ps parts.1)

  pub rising : (es : List (List ℕ × X)) → T (is_sorted by_text es) → Ascend es
  unfolding IsStrictlySortedBy
  rising [] t = tt
  rising (p ∷ ps) t = let parts = both-parts (below_all by_text p.0 ps) (is_sorted by_text ps) t in (below-all p.0 ps parts.0, rising ps parts.1)

-- each row stands behind those before it, by recursion
abbrev pub IsUp : List LiveRow → Type 0
IsUp [] = Unit {0}
IsUp (x ∷ xs) = AllByRecursion (Before x) xs × IsUp xs

pub ascending-up : (xs : List LiveRow) → IsUp xs → AreAscending xs
ascending-up [] up = λ i j d less within. absurd (omega arith)
ascending-up (x ∷ xs) up = AllPairs-cons Before x xs (All-from_recursion (Before x) xs up.0) (ascending-up xs up.1)

both-all : (P : LiveRow → Type 0) (xs ys : List LiveRow) → AllByRecursion P xs → AllByRecursion P ys → AllByRecursion P (xs ++ ys)
both-all P [] ys all others = others
both-all P (x ∷ xs) ys all others = (all.0, both-all P xs ys all.1 others)

both-up : (xs ys : List LiveRow) → IsUp xs → IsUp ys → AllByRecursion (λ x. AllByRecursion (Before x) ys) xs → IsUp (xs ++ ys)
both-up [] ys up others apart = others
both-up (x ∷ xs) ys up others apart = (both-all (Before x) xs ys up.0 apart.0, both-up xs ys up.1 others apart.1)

filtered-all : {X : Type 0} (P : X → Type 0) (f : X → Bool) (xs : List X) → AllByRecursion P xs → AllByRecursion P (filter f xs)
filtered-all P f [] all = tt
filtered-all {X} P f (x ∷ xs) all = go (f x) (filtered-all P f xs all.1)
  where
    go : (b : Bool) → AllByRecursion P (filter f xs) → AllByRecursion P (cond b (x ∷ filter f xs) (filter f xs))
    go true rest = (all.0, rest)
    go false rest = rest

module _ (owner : List ℕ) where
  -- rows of one owner
  own-before : (p q : List ℕ × (Value × ℕ)) → by_text p.0 q.0 ≡ Less → Before (row_at owner p) (row_at owner q)
  own-before p q less = let same = tied_itself nat_list_cmp_total owner in rw (same, less) refl

  own-all : (p : List ℕ × (Value × ℕ)) (f : List ℕ × (Value × ℕ) → Bool) (ps : List (List ℕ × (Value × ℕ))) → AllByRecursion (λ k. by_text p.0 k ≡ Less) (keys_of ps)
      → AllByRecursion (Before (row_at owner p)) (map (row_at owner) (filter f ps))
  own-all p f [] all = tt
  own-all p f (q ∷ qs) all = go (f q) (own-all p f qs all.1)
    where
      go : (b : Bool) → AllByRecursion (Before (row_at owner p)) (map (row_at owner) (filter f qs)) → AllByRecursion (Before (row_at owner p)) (map (row_at owner) (cond b (q ∷ filter f qs) (filter f qs)))
      go true rest = (own-before p q all.0, rest)
      go false rest = rest

  own-up : (f : List ℕ × (Value × ℕ) → Bool) (ps : List (List ℕ × (Value × ℕ))) → Ascend ps → IsUp (map (row_at owner) (filter f ps))
  unfolding IsStrictlySortedBy
  own-up f [] up = tt
  own-up f (p ∷ ps) up = go (f p) (own-up f ps up.1)
    where
      go : (b : Bool) → IsUp (map (row_at owner) (filter f ps)) → IsUp (map (row_at owner) (cond b (p ∷ filter f ps) (filter f ps)))
      go true rest = (own-all p f ps up.0, rest)
      go false rest = rest

  -- rows of an owner behind that of the row
  other-before : (x : LiveRow) → by_text x.owner owner ≡ Less → (q : List ℕ × (Value × ℕ)) → Before x (row_at owner q)
  other-before x less q = rw less refl

  other-all : (x : LiveRow) → by_text x.owner owner ≡ Less → (qs : List (List ℕ × (Value × ℕ))) → AllByRecursion (Before x) (map (row_at owner) qs)
  other-all x less [] = tt
  other-all x less (q ∷ qs) = (other-before x less q, other-all x less qs)

module _ (prefix : List ℕ) (f : List ℕ → Bool) where
  abbrev rows-of : List (List ℕ × OwnerView) → List LiveRow
  rows-of es = rows_of_owners prefix (filter (λ p. f p.0) es)

  later-all : (x : LiveRow) (es : List (List ℕ × OwnerView)) → AllByRecursion (λ n. by_text x.owner n ≡ Less) (keys_of es) → AllByRecursion (Before x) (rows-of es)
  later-all x [] all = tt
  later-all x (p ∷ ps) all = go (f p.0) (later-all x ps all.1)
    where
      go : (b : Bool) → AllByRecursion (Before x) (rows-of ps) → AllByRecursion (Before x) (rows_of_owners prefix (cond b (p ∷ filter (λ q. f q.0) ps) (filter (λ q. f q.0) ps)))
      go true rest = both-all (Before x) (rows_under prefix p.0 p.1) (rows-of ps) (other-all p.0 x all.0 (filter (λ q. starts_with nat_eq q.0 prefix) (entries p.1.rows))) rest
      go false rest = rest

  each-later : (n : List ℕ) (qs : List (List ℕ × (Value × ℕ))) (es : List (List ℕ × OwnerView)) → AllByRecursion (λ m. by_text n m ≡ Less) (keys_of es)
      → AllByRecursion (λ x. AllByRecursion (Before x) (rows-of es)) (map (row_at n) qs)
  each-later n [] es all = tt
  each-later n (q ∷ qs) es all = (later-all (row_at n q) es all, each-later n qs es all)

  rows-up : (es : List (List ℕ × OwnerView)) → Ascend es → IsUp (rows-of es)
  unfolding IsStrictlySortedBy
  rows-up [] up = tt
  rows-up (p ∷ ps) up = go (f p.0) (rows-up ps up.1)
    where
      go : (b : Bool) → IsUp (rows-of ps) → IsUp (rows_of_owners prefix (cond b (p ∷ filter (λ q. f q.0) ps) (filter (λ q. f q.0) ps)))
      go true rest =
          let under = filter (λ (q : List ℕ × (Value × ℕ)). starts_with nat_eq q.0 prefix) (entries p.1.rows) in
          both-up (rows_under prefix p.0 p.1) (rows-of ps) (own-up p.0 (λ q. starts_with nat_eq q.0 prefix) (entries p.1.rows) (rising (entries p.1.rows) (entries_sorted p.1.rows))) rest
          (each-later p.0 under ps up.0)
      go false rest = rest

pub ascending : (place : Option (List ℕ × List ℕ)) (wanted : Option (List ℕ)) (prefix : List ℕ) (view : NodeView) → AreAscending (rows_behind place wanted prefix view)
ascending place wanted prefix view =
    AllPairs-filter Before (is_behind place) (rows_in wanted prefix view)
    (ascending-up (rows_in wanted prefix view) (rows-up prefix (is_wanted wanted) (entries view) (rising (entries view) (entries_sorted view))))
