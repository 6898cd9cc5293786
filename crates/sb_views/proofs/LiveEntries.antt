-- The live entries of an owner, sorted by key: what an insertion, a replacement and a removal make of its rows.
use Rattle.std.proofs.Common.{◌≡◌, ℕ, ◌<◌, ◌≤◌, zero, suc, Bool, true, false, cond, not, inl, inr, ◌⊎◌, ⊎_elim, Option, Some, None, Result, Ok, Err, OnOk, OnErr, List, [], ◌∷◌, map, filter, drop, length, get_or, set, insert, remove, refl, sym, ap, subst, ◌∙◌, arith}
use Rattle.std.proofs.lemmas.Bool.{cases_lt}
use Rattle.std.proofs.lemmas.Cmp.{nat_list_cmp_total, tied_itself}
use Rattle.std.specs.List.{AllByRecursion, AllWithin, HoldsAt}
use Rattle.std.specs.List.Sorted.{IsPartitionPoint, IsPartitionedBy, IsStrictlySortedBy}
use Rattle.std.specs.Map.{keys_of}
use Rattle.std.specs.BTreeMap.{is_at}
use Rattle.std.specs.BTreeMap.Range.{is_from_start}
use Rattle.std.specs.Ordering.{is_lt, is_le, is_eq, ordering_reverse}
use Rattle.std.specs.Cmp.{eq_by_cmp_equiv}
use Rattle.std.specs.declared.alloc.AllocError.{AllocError}
use Rattle.std.specs.declared.cmp.Ordering.{Ordering}
use Rattle.std.specs.declared.cmp.Ordering.TheVariants.{Less, Equal, Greater}
use Rattle.std.specs.declared.ops.Bound.{Bound}
use Rattle.std.specs.declared.ops.Bound.TheVariants.{Included, Excluded, Unbounded}
use Rattle.std.specs.FinMap.{slice_cmp-IsAntisymmetric, nat_cmp-IsAntisymmetric}
use Rattle.std.specs.FinMap as maps
use Rattle.sb_types.specs.Limits.{text_lt}
use Rattle.sb_types.specs.Records.{Entry}
use Rattle.sb_types.specs.Runs.{Stands, is_set}
use Rattle.sb_types.specs.Value.{Value}
use Rattle.sb_types.proofs.Standing.{of_kept}
use Rattle.sb_types.proofs.Texts.{Less-from_text_lt, text_lt-trans, text_le-text_lt}
use Rattle.sb_table.specs.Order.{IsRising}
use Rattle.sb_table.proofs.Keys.{rises, index_never_falls, Stands-at, SaysPlace}
use Rattle.sb_views.specs.NodeViews.{live_of, live_rows_of, rows_of, AllSet, AreLive}
use Rattle.sb_views.proofs.ByText.{by_text, Ascend, found, with_inserted, with_removed}

-- ---- the same entries

moved : (e x y : Entry) (xs : List Entry) → (e ≡ y) ⊎ Stands xs y → (e ≡ y) ⊎ Stands (x ∷ xs) y
moved e x y xs (inl same) = inl same
moved e x y xs (inr there) = inr (inr there)

Stands-insert : (e : Entry) (xs : List Entry) (i : ℕ) (y : Entry) → i ≤ length xs → Stands (insert xs i e) y → (e ≡ y) ⊎ Stands xs y
Stands-insert e [] zero y le stands = stands
Stands-insert e [] (suc i) y le stands = absurd (omega (arith, le))
Stands-insert e (x ∷ xs) zero y le stands = stands
Stands-insert e (x ∷ xs) (suc i) y le (inl same) = inr (inl same)
Stands-insert e (x ∷ xs) (suc i) y le (inr there) = moved e x y xs (Stands-insert e xs i y (omega (arith, le)) there)

Stands-set : (e : Entry) (xs : List Entry) (i : ℕ) (y : Entry) → i < length xs → Stands (set xs i e) y → (e ≡ y) ⊎ Stands xs y
Stands-set e [] i y lt stands = absurd (omega (arith, lt))
Stands-set e (x ∷ xs) zero y lt (inl same) = inl same
Stands-set e (x ∷ xs) zero y lt (inr there) = inr (inr there)
Stands-set e (x ∷ xs) (suc i) y lt (inl same) = inr (inl same)
Stands-set e (x ∷ xs) (suc i) y lt (inr there) = moved e x y xs (Stands-set e xs i y (omega (arith, lt)) there)

Stands-remove : (xs : List Entry) (i : ℕ) (y : Entry) → i < length xs → Stands (remove xs i) y → Stands xs y
Stands-remove [] i y lt stands = absurd (omega (arith, lt))
Stands-remove (x ∷ xs) zero y lt stands = inr stands
Stands-remove (x ∷ xs) (suc i) y lt (inl same) = inl same
Stands-remove (x ∷ xs) (suc i) y lt (inr there) = inr (Stands-remove xs i y (omega (arith, lt)) there)

-- ---- each key stays below those after it

turned : (a b : List ℕ) → by_text b a ≡ Greater → text_lt a b ≡ true
turned a b is = ap is_lt (nat_list_cmp_total.antisymm a b ∙ ap ordering_reverse is)

abbrev IsPlace : List ℕ → List Entry → ℕ → Type 0
IsPlace key xs i = IsPartitionPoint (λ (y : Entry). by_text y.key key ≡ Less) (λ y. by_text y.key key ≡ Greater) xs i

later_place : (key : List ℕ) (x : Entry) (xs : List Entry) (i : ℕ) → IsPlace key (x ∷ xs) (suc i) → IsPlace key xs i
later_place key x xs i point = (λ k d le lt. point.0 (suc k) d (omega arith) (omega (arith, lt)), λ k d le lt. point.1 (suc k) d (omega (arith, le)) (omega (arith, lt)))

IsRising-insert : (e : Entry) (xs : List Entry) (i : ℕ) → i ≤ length xs → IsPlace e.key xs i → IsRising xs → IsRising (insert xs i e)
IsRising-insert e [] zero le point rising = ((λ y stands. absurd stands), tt)
IsRising-insert e [] (suc i) le point rising = absurd (omega (arith, le))
IsRising-insert e (x ∷ xs) zero le point rising =
    let first : text_lt e.key x.key ≡ true = turned e.key x.key (point.1 0 x (omega arith) (omega arith)) in (
      (λ y stands. ⊎_elim (λ same. subst (λ (z : Entry). text_lt e.key z.key ≡ true) same first) (λ there. text_lt-trans e.key x.key y.key first (rising.0 y there)) stands),
      rising,
    )
IsRising-insert e (x ∷ xs) (suc i) le point rising =
    let first : text_lt x.key e.key ≡ true = ap is_lt (point.0 0 x (omega arith) (omega arith)) in (
      (λ y stands. ⊎_elim (λ same. subst (λ (z : Entry). text_lt x.key z.key ≡ true) same first) (λ there. rising.0 y there) (Stands-insert e xs i y (omega (arith, le)) stands)),
      IsRising-insert e xs i (omega (arith, le)) (later_place e.key x xs i point) rising.1,
    )

abbrev HasKeyAt : List ℕ → List Entry → ℕ → Type 0
HasKeyAt key xs i = (d : Entry) → (get_or xs i d).key ≡ key

first_below : (key : List ℕ) (x : Entry) (xs : List Entry) (i : ℕ) → suc i < length (x ∷ xs) → HasKeyAt key (x ∷ xs) (suc i) → IsRising (x ∷ xs) → text_lt x.key key ≡ true
first_below key x xs i lt at rising = subst (λ (k : List ℕ). text_lt x.key k ≡ true) (at x) (rises (x ∷ xs) rising 0 (suc i) x (omega arith) lt)

IsRising-set : (e : Entry) (xs : List Entry) (i : ℕ) → i < length xs → HasKeyAt e.key xs i → IsRising xs → IsRising (set xs i e)
IsRising-set e [] i lt at rising = absurd (omega (arith, lt))
IsRising-set e (x ∷ xs) zero lt at rising = ((λ y stands. subst (λ (k : List ℕ). text_lt k y.key ≡ true) (at e) (rising.0 y stands)), rising.1)
IsRising-set e (x ∷ xs) (suc i) lt at rising =
    let first = first_below e.key x xs i lt at rising in (
      (λ y stands. ⊎_elim (λ same. subst (λ (z : Entry). text_lt x.key z.key ≡ true) same first) (λ there. rising.0 y there) (Stands-set e xs i y (omega (arith, lt)) stands)),
      IsRising-set e xs i (omega (arith, lt)) at rising.1,
    )

IsRising-remove : (xs : List Entry) (i : ℕ) → i < length xs → IsRising xs → IsRising (remove xs i)
IsRising-remove [] i lt rising = absurd (omega (arith, lt))
IsRising-remove (x ∷ xs) zero lt rising = rising.1
IsRising-remove (x ∷ xs) (suc i) lt rising =
    ((λ y stands. rising.0 y (Stands-remove xs i y (omega (arith, lt)) stands)), IsRising-remove xs i (omega (arith, lt)) rising.1)

below_each : (key : List ℕ) (xs : List Entry) → ((y : Entry) → Stands xs y → text_lt key y.key ≡ true) → AllByRecursion (λ k. by_text key k ≡ Less) (keys_of (live_rows_of xs))
below_each key [] above = tt
below_each key (x ∷ xs) above = (Less-from_text_lt key x.key (above x (inl refl)), below_each key xs (λ y stands. above y (inr stands)))

pub ascend : (xs : List Entry) → IsRising xs → Ascend (live_rows_of xs)
unfolding IsStrictlySortedBy
ascend [] rising = tt
ascend (x ∷ xs) rising = (below_each x.key xs rising.0, ascend xs rising.1)

-- ---- what is found under each key

abbrev row : List Entry → List ℕ → Option (Value × ℕ)
row xs q = found (live_rows_of xs) q

symm : (a b : List ℕ) → is_at (by_text a) b ≡ is_at (by_text b) a
symm a b = (eq_by_cmp_equiv nat_list_cmp_total).symm a b

tied : (r : Ordering) → is_eq r ≡ true → r ≡ Equal
tied Less is = absurd (cc)
tied Equal is = refl
tied Greater is = absurd (cc)

same_text : (a b : List ℕ) → is_at (by_text a) b ≡ true → a ≡ b
same_text a b is = slice_cmp-IsAntisymmetric nat_cmp-IsAntisymmetric a b (tied (by_text a b) is)

less_apart : (a b : List ℕ) → text_lt a b ≡ true → is_at (by_text a) b ≡ false
less_apart a b lt = ap is_eq (Less-from_text_lt a b lt)

-- whoever is at a lower key is not at this one
lower_apart : (z k q : List ℕ) → text_lt z k ≡ true → is_at (by_text q) z ≡ true → is_at (by_text k) q ≡ false
lower_apart z k q lt at = ap (is_at (by_text k)) (same_text q z at) ∙ symm k z ∙ less_apart z k lt

-- what is changed behind a lower key
behind_lower : (x : Entry) (k q : List ℕ) (w old new : Option (Value × ℕ)) → text_lt x.key k ≡ true → new ≡ cond (is_at (by_text k) q) w old
    → cond (is_at (by_text q) x.key) (Some (live_of x)) new ≡ cond (is_at (by_text k) q) w (cond (is_at (by_text q) x.key) (Some (live_of x)) old)
behind_lower x k q w old new lt is = go (is_at (by_text q) x.key) refl
  where
    go : (b : Bool) → is_at (by_text q) x.key ≡ b → cond b (Some (live_of x)) new ≡ cond (is_at (by_text k) q) w (cond b (Some (live_of x)) old)
    go true at = sym (ap (λ (c : Bool). cond c w (Some (live_of x))) (lower_apart x.key k q lt at))
    go false at = is

row-insert : (e : Entry) (xs : List Entry) (i : ℕ) → i ≤ length xs → IsPlace e.key xs i → (q : List ℕ) → row (insert xs i e) q ≡ cond (is_at (by_text e.key) q) (Some (live_of e)) (row xs q)
row-insert e [] zero le point q = ap (λ (b : Bool). cond b (Some (live_of e)) None) (symm q e.key)
row-insert e [] (suc i) le point q = absurd (omega (arith, le))
row-insert e (x ∷ xs) zero le point q = ap (λ (b : Bool). cond b (Some (live_of e)) (row (x ∷ xs) q)) (symm q e.key)
row-insert e (x ∷ xs) (suc i) le point q =
    behind_lower x e.key q (Some (live_of e)) (row xs q) (row (insert xs i e) q) (ap is_lt (point.0 0 x (omega arith) (omega arith)))
    (row-insert e xs i (omega (arith, le)) (later_place e.key x xs i point) q)

-- the row at a key is put away
at_first : (x : Entry) (k q : List ℕ) (w rest : Option (Value × ℕ)) → x.key ≡ k → (is_at (by_text k) q ≡ true → rest ≡ w)
    → rest ≡ cond (is_at (by_text k) q) w (cond (is_at (by_text q) x.key) (Some (live_of x)) rest)
at_first x k q w rest key there = go (is_at (by_text k) q) refl
  where
    go : (b : Bool) → is_at (by_text k) q ≡ b → rest ≡ cond b w (cond (is_at (by_text q) x.key) (Some (live_of x)) rest)
    go true at = there at
    go false at = sym (ap (λ (b : Bool). cond b (Some (live_of x)) rest) (ap (is_at (by_text q)) key ∙ symm q k ∙ at))

set_first : (x e : Entry) (q : List ℕ) (rest : Option (Value × ℕ)) → x.key ≡ e.key
    → cond (is_at (by_text q) e.key) (Some (live_of e)) rest ≡ cond (is_at (by_text e.key) q) (Some (live_of e)) (cond (is_at (by_text q) x.key) (Some (live_of x)) rest)
set_first x e q rest key = ap (λ (b : Bool). cond b (Some (live_of e)) rest) (symm q e.key) ∙ go (is_at (by_text e.key) q) refl
  where
    go : (b : Bool) → is_at (by_text e.key) q ≡ b → cond b (Some (live_of e)) rest ≡ cond b (Some (live_of e)) (cond (is_at (by_text q) x.key) (Some (live_of x)) rest)
    go true at = refl
    go false at = sym (ap (λ (b : Bool). cond b (Some (live_of x)) rest) (ap (is_at (by_text q)) key ∙ symm q e.key ∙ at))

row-set : (e : Entry) (xs : List Entry) (i : ℕ) → i < length xs → HasKeyAt e.key xs i → IsRising xs → (q : List ℕ) → row (set xs i e) q ≡ cond (is_at (by_text e.key) q) (Some (live_of e)) (row xs q)
row-set e [] i lt at rising q = absurd (omega (arith, lt))
row-set e (x ∷ xs) zero lt at rising q = set_first x e q (row xs q) (at x)
row-set e (x ∷ xs) (suc i) lt at rising q =
    behind_lower x e.key q (Some (live_of e)) (row xs q) (row (set xs i e) q) (first_below e.key x xs i lt at rising) (row-set e xs i (omega (arith, lt)) at rising.1 q)

none_above : (k : List ℕ) (xs : List Entry) → ((y : Entry) → Stands xs y → text_lt k y.key ≡ true) → row xs k ≡ None
none_above k [] above = refl
none_above k (x ∷ xs) above = ap (λ (b : Bool). cond b (Some (live_of x)) (row xs k)) (less_apart k x.key (above x (inl refl))) ∙ none_above k xs (λ y stands. above y (inr stands))

row-remove : (k : List ℕ) (xs : List Entry) (i : ℕ) → i < length xs → HasKeyAt k xs i → IsRising xs → (q : List ℕ) → row (remove xs i) q ≡ cond (is_at (by_text k) q) None (row xs q)
row-remove k [] i lt at rising q = absurd (omega (arith, lt))
row-remove k (x ∷ xs) zero lt at rising q =
    at_first x k q None (row xs q) (at x)
    (λ here. none_above q xs (λ y stands. subst (λ (t : List ℕ). text_lt t y.key ≡ true) (at x ∙ same_text k q here) (rising.0 y stands)))
row-remove k (x ∷ xs) (suc i) lt at rising q =
    behind_lower x k q None (row xs q) (row (remove xs i) q) (first_below k x xs i lt at rising) (row-remove k xs i (omega (arith, lt)) at rising.1 q)

none_apart : (k : List ℕ) (xs : List Entry) → ((i : ℕ) (d : Entry) → i < length xs → is_at (by_text k) (get_or xs i d).key ≡ false) → row xs k ≡ None
none_apart k [] apart = refl
none_apart k (x ∷ xs) apart = ap (λ (b : Bool). cond b (Some (live_of x)) (row xs k)) (apart 0 x (omega arith)) ∙ none_apart k xs (λ i d lt. apart (suc i) d (omega (arith, lt)))

none_at_place : (k : List ℕ) (xs : List Entry) (n : ℕ) → IsPlace k xs n → row xs k ≡ None
none_at_place k xs n point =
    none_apart k xs (λ i d lt.
    symm k (get_or xs i d).key
    ∙ ⊎_elim (λ front. ap is_eq (point.0 i d (omega arith) front)) (λ back. ap is_eq (point.1 i d back lt)) (cases_lt i n))

row-at : (k : List ℕ) (xs : List Entry) (i : ℕ) (d : Entry) → i < length xs → (get_or xs i d).key ≡ k → IsRising xs → row xs k ≡ Some (live_of (get_or xs i d))
row-at k [] i d lt at rising = absurd (omega (arith, lt))
row-at k (x ∷ xs) zero d lt at rising =
    ap (λ (b : Bool). cond b (Some (live_of x)) (row xs k)) (ap (is_at (by_text k)) at ∙ ap is_eq (tied_itself nat_list_cmp_total k))
row-at k (x ∷ xs) (suc i) d lt at rising =
    let lower : text_lt x.key k ≡ true = subst (λ (t : List ℕ). text_lt x.key t ≡ true) at (rises (x ∷ xs) rising 0 (suc i) d (omega arith) lt) in
    ap (λ (b : Bool). cond b (Some (live_of x)) (row xs k)) (symm k x.key ∙ less_apart x.key k lower) ∙ row-at k xs i d (omega (arith, lt)) at rising.1

-- ---- the rows after a change

keyed : (key : List ℕ) (xs : List Entry) (i : ℕ) → HoldsAt (λ (y : Entry). by_text y.key key ≡ Equal) xs i → HasKeyAt key xs i
keyed key xs i at d = slice_cmp-IsAntisymmetric nat_cmp-IsAntisymmetric (get_or xs i d).key key (at d)

pub replaced : (e : Entry) (xs : List Entry) (i : ℕ) → AreLive xs → is_set e.slot ≡ true → i < length xs → HoldsAt (λ (y : Entry). by_text y.key e.key ≡ Equal) xs i
    → (rows_of (live_rows_of (set xs i e)) ≡ maps.insert (rows_of (live_rows_of xs)) e.key (live_of e)) × AreLive (set xs i e)
replaced e xs i live is lt at =
    let has = keyed e.key xs i at in
    let rising = IsRising-set e xs i lt has live.rising in (
      with_inserted (live_rows_of xs) (live_rows_of (set xs i e)) e.key (live_of e) (ascend xs live.rising) (ascend (set xs i e) rising) (row-set e xs i lt has live.rising),
      record {
        rising = rising;
        set = λ y stands. ⊎_elim (λ same. subst (λ (z : Entry). is_set z.slot ≡ true) same is) (λ there. live.set y there) (Stands-set e xs i y lt stands);
      },
    )

pub added : (e : Entry) (xs : List Entry) (i : ℕ) → AreLive xs → is_set e.slot ≡ true → i ≤ length xs → SaysPlace e.key xs i
    → (rows_of (live_rows_of (insert xs i e)) ≡ maps.insert (rows_of (live_rows_of xs)) e.key (live_of e)) × AreLive (insert xs i e)
added e xs i live is le says =
    let point = says (index_never_falls e.key xs live.rising) in
    let rising = IsRising-insert e xs i le point live.rising in (
      with_inserted (live_rows_of xs) (live_rows_of (insert xs i e)) e.key (live_of e) (ascend xs live.rising) (ascend (insert xs i e) rising) (row-insert e xs i le point),
      record {
        rising = rising;
        set = λ y stands. ⊎_elim (λ same. subst (λ (z : Entry). is_set z.slot ≡ true) same is) (λ there. live.set y there) (Stands-insert e xs i y le stands);
      },
    )

pub removed : (key : List ℕ) (xs : List Entry) (i : ℕ) → AreLive xs → i < length xs → HoldsAt (λ (y : Entry). by_text y.key key ≡ Equal) xs i
    → (rows_of (live_rows_of (remove xs i)) ≡ maps.remove (rows_of (live_rows_of xs)) key) × AreLive (remove xs i)
removed key xs i live lt at =
    let has = keyed key xs i at in
    let rising = IsRising-remove xs i lt live.rising in (
      with_removed (live_rows_of xs) (live_rows_of (remove xs i)) key (ascend xs live.rising) (ascend (remove xs i) rising) (row-remove key xs i lt has live.rising),
      record { rising = rising; set = λ y stands. live.set y (Stands-remove xs i y lt stands) },
    )

unchanged : (k q : List ℕ) (xs : List Entry) → row xs k ≡ None → (b : Bool) → is_at (by_text k) q ≡ b → row xs q ≡ cond b None (row xs q)
unchanged k q xs none true at = subst (λ (t : List ℕ). row xs t ≡ None) (same_text k q at) none
unchanged k q xs none false at = refl

-- a key without a row is taken out
pub none_removed : (key : List ℕ) (xs : List Entry) (i : ℕ) → AreLive xs → SaysPlace key xs i → rows_of (live_rows_of xs) ≡ maps.remove (rows_of (live_rows_of xs)) key
none_removed key xs i live says =
    let up = ascend xs live.rising in
    let none = none_at_place key xs i (says (index_never_falls key xs live.rising)) in
    with_removed (live_rows_of xs) (live_rows_of xs) key up up (λ q. unchanged key q xs none (is_at (by_text key) q) refl)

pub found_at : (key : List ℕ) (xs : List Entry) (i : ℕ) (x : Entry) → AreLive xs → i < length xs → HoldsAt (λ (y : Entry). by_text y.key key ≡ Equal) xs i → x ≡ get_or xs i x
    → found (live_rows_of xs) key ≡ Some (live_of x)
found_at key xs i x live lt at read = row-at key xs i x lt (keyed key xs i at x) live.rising ∙ ap (λ (y : Entry). Some (live_of y)) (sym read)

pub not_found : (key : List ℕ) (xs : List Entry) (i : ℕ) → AreLive xs → SaysPlace key xs i → found (live_rows_of xs) key ≡ None
not_found key xs i live says = none_at_place key xs i (says (index_never_falls key xs live.rising))

-- ---- the entries from a start on

from_later : (start : Bound (List ℕ)) (a b : List ℕ) → text_lt a b ≡ true → is_from_start by_text start a ≡ true → is_from_start by_text start b ≡ true
from_later (Included p) a b lt from = go (by_text p b) (text_le-text_lt p a b from lt)
  where
    go : (r : Ordering) → is_lt r ≡ true → is_le r ≡ true
    go Less is = refl
    go Equal is = absurd (cc)
    go Greater is = absurd (cc)
from_later (Excluded p) a b lt from = text_lt-trans p a b from lt
from_later Unbounded a b lt from = refl

not-false : (b c : Bool) → (c ≡ true → b ≡ true) → not b ≡ true → not c ≡ true
not-false true true h is = absurd (cc)
not-false false true h is = let e : false ≡ true = h refl in absurd (cc)
not-false b false h is = refl

pub parted : (start : Bound (List ℕ)) (xs : List Entry) → IsRising xs → IsPartitionedBy (λ (e : Entry). not (is_from_start by_text start e.key)) xs
parted start xs rising i j d le within is =
    ⊎_elim
    (λ lt. not-false (is_from_start by_text start (get_or xs j d).key) (is_from_start by_text start (get_or xs i d).key)
    (from_later start (get_or xs i d).key (get_or xs j d).key (rises xs rising i j d lt within)) is)
    (λ ge. let same : i ≡ j = omega (arith, le, ge) in subst (λ (n : ℕ). not (is_from_start by_text start (get_or xs n d).key) ≡ true) (sym same) is)
    (cases_lt i j)

flipped : (b : Bool) → not b ≡ true → b ≡ false
flipped true is = absurd (cc)
flipped false is = refl

unflipped : (b : Bool) → not b ≡ false → b ≡ true
unflipped true is = refl
unflipped false is = absurd (cc)

drop-from : (p : Entry → Bool) (xs : List Entry) (i : ℕ) → AllWithin (λ y. not (p y) ≡ true) xs 0 i → AllWithin (λ y. not (p y) ≡ false) xs i (length xs) → drop i xs ≡ filter p xs
drop-from p [] zero before from = refl
drop-from p [] (suc i) before from = refl
drop-from p (x ∷ xs) zero before from =
    let here : p x ≡ true = unflipped (p x) (from 0 x (omega arith) (omega arith)) in
    let rest : drop 0 xs ≡ filter p xs = drop-from p xs 0 (λ k d le lt. absurd (omega (arith, lt))) (λ k d le lt. from (suc k) d (omega arith) (omega (arith, lt))) in
    grind arith
drop-from p (x ∷ xs) (suc i) before from =
    let here : p x ≡ false = flipped (p x) (before 0 x (omega arith) (omega arith)) in
    let rest : drop i xs ≡ filter p xs = drop-from p xs i (λ k d le lt. before (suc k) d (omega arith) (omega (arith, lt))) (λ k d le lt. from (suc k) d (omega (arith, le)) (omega (arith, lt))) in
    grind arith

pub from_place : (start : Bound (List ℕ)) (xs : List Entry) (i : ℕ) → AllWithin (λ (y : Entry). not (is_from_start by_text start y.key) ≡ true) xs 0 i
    → AllWithin (λ (y : Entry). not (is_from_start by_text start y.key) ≡ false) xs i (length xs) → drop i xs ≡ filter (λ e. is_from_start by_text start e.key) xs
from_place start xs i before from = drop-from (λ (e : Entry). is_from_start by_text start e.key) xs i before from

-- the rows of those that are kept
pub rows-kept : (f : List ℕ → Bool) (xs : List Entry) → live_rows_of (filter (λ e. f e.key) xs) ≡ filter (λ p. f p.0) (live_rows_of xs)
rows-kept f [] = refl
rows-kept f (x ∷ xs) = go (f x.key) (rows-kept f xs)
  where
    go : (b : Bool) → live_rows_of (filter (λ e. f e.key) xs) ≡ filter (λ p. f p.0) (live_rows_of xs)
        → live_rows_of (cond b (x ∷ filter (λ e. f e.key) xs) (filter (λ e. f e.key) xs)) ≡ cond b ((x.key, live_of x) ∷ filter (λ p. f p.0) (live_rows_of xs)) (filter (λ p. f p.0) (live_rows_of xs))
    go true rest = ap (λ (rows : List (List ℕ × (Value × ℕ))). (x.key, live_of x) ∷ rows) rest
    go false rest = rest

-- ---- the same of a list that is lent, and of a key that is lent

module _ (xs now : List Entry) (key : List ℕ) (i : ℕ) (is : now ≡ xs) where
  at_key : (k : List ℕ) → key ≡ k → HoldsAt (λ (y : Entry). by_text y.key key ≡ Equal) now i → HoldsAt (λ (y : Entry). by_text y.key k ≡ Equal) xs i
  at_key k same at d = subst (λ (t : List ℕ). by_text (get_or xs i d).key t ≡ Equal) same (subst (λ (l : List Entry). by_text (get_or l i d).key key ≡ Equal) is (at d))

  says_of : (k : List ℕ) → key ≡ k → SaysPlace key now i → SaysPlace k xs i
  says_of k same says = subst (λ (t : List ℕ). SaysPlace t xs i) same (subst (λ (l : List Entry). SaysPlace key l i) is says)

  pub lent_replaced : (e : Entry) → key ≡ e.key → AreLive xs → is_set e.slot ≡ true → i < length now → HoldsAt (λ (y : Entry). by_text y.key key ≡ Equal) now i
      → (rows_of (live_rows_of (set xs i e)) ≡ maps.insert (rows_of (live_rows_of xs)) e.key (live_of e)) × AreLive (set xs i e)
  lent_replaced e same live set_is lt at = replaced e xs i live set_is (subst (λ (l : List Entry). i < length l) is lt) (at_key e.key same at)

  pub lent_added : (e : Entry) → key ≡ e.key → AreLive xs → is_set e.slot ≡ true → i ≤ length now → SaysPlace key now i
      → (rows_of (live_rows_of (insert xs i e)) ≡ maps.insert (rows_of (live_rows_of xs)) e.key (live_of e)) × AreLive (insert xs i e)
  lent_added e same live set_is le says = added e xs i live set_is (subst (λ (l : List Entry). i ≤ length l) is le) (says_of e.key same says)

  pub lent_removed : AreLive xs → i < length now → HoldsAt (λ (y : Entry). by_text y.key key ≡ Equal) now i
      → (rows_of (live_rows_of (remove xs i)) ≡ maps.remove (rows_of (live_rows_of xs)) key) × AreLive (remove xs i)
  lent_removed live lt at = removed key xs i live (subst (λ (l : List Entry). i < length l) is lt) (at_key key refl at)

  pub lent_kept : AreLive xs → SaysPlace key now i → rows_of (live_rows_of xs) ≡ maps.remove (rows_of (live_rows_of xs)) key
  lent_kept live says = none_removed key xs i live (says_of key refl says)

  pub lent_found : (x : Entry) → AreLive xs → i < length now → HoldsAt (λ (y : Entry). by_text y.key key ≡ Equal) now i → x ≡ get_or xs i x → found (live_rows_of xs) key ≡ Some (live_of x)
  lent_found x live lt at read = found_at key xs i x live (subst (λ (l : List Entry). i < length l) is lt) (at_key key refl at) read

  pub lent_set_at : (x : Entry) → AreLive xs → i < length now → x ≡ get_or xs i x → is_set x.slot ≡ true
  lent_set_at x live lt read = live.set x (subst (λ (y : Entry). Stands xs y) (sym read) (Stands-at xs i x (subst (λ (l : List Entry). i < length l) is lt)))

  pub lent_missed : AreLive xs → SaysPlace key now i → found (live_rows_of xs) key ≡ None
  lent_missed live says = not_found key xs i live (says_of key refl says)

-- ---- whether there is memory

pub with_memory : (r : Result (Unit {0}) AllocError) (new changed : List Entry) (want : maps.FinMap by_text (Value × ℕ)) → OnOk r (new ≡ changed) → rows_of (live_rows_of changed) ≡ want
    → OnOk r (rows_of (live_rows_of new) ≡ want)
with_memory (Ok done) new changed want ok is = ap (λ (es : List Entry). rows_of (live_rows_of es)) ok ∙ is
with_memory (Err fault) new changed want ok is = tt

pub live_after : (r : Result (Unit {0}) AllocError) (old new changed : List Entry) → OnOk r (new ≡ changed) → OnErr r (new ≡ old) → AreLive old → AreLive changed → AreLive new
live_after (Ok done) old new changed ok err before after = subst AreLive (sym ok) after
live_after (Err fault) old new changed ok err before after = subst AreLive (sym err) before

-- ---- what is before a start

pub before_first : (a b : List ℕ) → is_lt (by_text b a) ≡ not (is_le (by_text a b))
before_first a b = go (by_text a b) (by_text b a) (nat_list_cmp_total.antisymm b a)
  where
    go : (r s : Ordering) → s ≡ ordering_reverse r → is_lt s ≡ not (is_le r)
    go Less s is = ap is_lt is
    go Equal s is = ap is_lt is
    go Greater s is = ap is_lt is

pub up_to_last : (a b : List ℕ) → is_le (by_text b a) ≡ not (is_lt (by_text a b))
up_to_last a b = go (by_text a b) (by_text b a) (nat_list_cmp_total.antisymm b a)
  where
    go : (r s : Ordering) → s ≡ ordering_reverse r → is_le s ≡ not (is_lt r)
    go Less s is = ap is_le is
    go Equal s is = ap is_le is
    go Greater s is = ap is_le is

pub none_live : AreLive []
none_live = record { rising = tt; set = λ y stands. absurd stands }

pub length-rows : (xs : List Entry) → length (live_rows_of xs) ≡ length xs
length-rows [] = refl
length-rows (x ∷ xs) = ap suc (length-rows xs)

-- ---- the entries from a start on, of a list that is lent

module _ (xs now : List Entry) where
  pub lent_rising : now ≡ xs → AreLive xs → IsRising now
  lent_rising is live = subst IsRising (sym is) live.rising

  module _ (reached : List Entry) (start : Bound (List ℕ)) (is : now ≡ xs) (from : reached ≡ filter (λ e. is_from_start by_text start e.key) now) where
    whole : reached ≡ filter (λ e. is_from_start by_text start e.key) xs
    whole = from ∙ ap (filter (λ e. is_from_start by_text start e.key)) is

    pub lent_set : AreLive xs → AllSet reached
    lent_set live y stands =
        live.set y (of_kept (λ (e : Entry). is_from_start by_text start e.key) xs y (subst (λ (es : List Entry). Stands es y) whole stands)).0

    pub lent_rows : live_rows_of reached ≡ filter (λ p. is_from_start by_text start p.0) (live_rows_of xs)
    lent_rows = ap live_rows_of whole ∙ rows-kept (is_from_start by_text start) xs
