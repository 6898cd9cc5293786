-- The entries sorted by key: what a search finds in them, and what an insertion, a replacement and a filter make of them.
use Rattle.std.proofs.Common.{◌≡◌, ℕ, ◌+◌, ◌<◌, ◌≤◌, zero, suc, Bool, true, false, cond, not, ◌||◌, ◌&&◌, inl, inr, ◌⊎◌, ⊎_elim, Result, Ok, Err, OnOk, OnErr, is_ok, Some, List, [], ◌∷◌, ◌++◌, take, drop, filter, length, ◌-◌, get_or, set, insert, remove, nat_eq, nat_lt, refl, sym, ap, ap₂, subst, ◌∙◌, arith}
use Rattle.std.proofs.lemmas.Bool.{cond_both, cases_Bool, cases_eq, cases_lt, and_parts, not-true}
use Rattle.std.proofs.lemmas.Bool.Decides.{nat_tests}
use Rattle.std.proofs.lemmas.Cmp.{nat_list_cmp_total, nat_list_eq_equiv}
use denote.Param.Members.{Mut}
use Rattle.std.specs.Fn.{Called, AlwaysReturns}
use Rattle.std.proofs.lemmas.Fn.{answers_by}
use Rattle.std.proofs.lemmas.List.{length-drop, take_all}
use Rattle.std.specs.List.{AllWithin, HoldsAt, starts_with}
use Rattle.std.specs.List.Sorted.{IsNonDecreasingBy, IsPartitionPoint, IsPartitionedBy, IsBinarySearchResult, IsSearchInRange}
use Rattle.std.specs.Option.{option_map}
use Rattle.sb_types.specs.declared.entry.Slot.{Slot}
use Rattle.std.specs.Ordering.{nat_cmp, is_lt, is_le, is_eq, ordering_index, ordering_reverse}
use Rattle.std.specs.declared.cmp.Ordering.{Ordering}
use Rattle.std.specs.declared.cmp.Ordering.TheVariants.{Less, Equal, Greater}
use Rattle.std.specs.FinMap.{slice_cmp-IsAntisymmetric, nat_cmp-IsAntisymmetric}
use Rattle.std.specs.Cmp.Lexicographic.{pointwise, slice_cmp, texts_ties, bytes_decides}
use Rattle.sb_types.specs.Limits.{text_lt}
use Rattle.sb_types.specs.Records.{Entry}
use Rattle.sb_types.specs.Runs.{Stands, are_ascending, are_distinct, entries_after, entries_without_keys, entry_at, has_key}
use Rattle.sb_types.specs.declared.fault.Fault.{Fault}
use Rattle.sb_types.proofs.Standing.{of_kept, not_there, has}
use Rattle.sb_types.proofs.Texts.{Less-from_is_lt, text_lt-same, text_lt-trans, text_lt-other, text_lt-back, text_le-text_lt, apart-from_Less, apart-from_Greater, starts-behind, starts-between}
use Rattle.sb_table.specs.Plain.{IsPlainTable, plain_table, version_and_slot}
use Rattle.sb_table.specs.Order.{put_by_key, by_key, IsRising}
use Rattle.sb_table.proofs.Enter.{without-none, has_key-without, are_distinct-filter}
use Rattle.sb_table.proofs.Lookup.{entry_at-stands}
use Rattle.sb_table.proofs.Order.{behind, ascending_kept}
use Rattle.sb_table.proofs.Merging.{length-filter_le}

-- ---- the same entries

pub Stands-put : (e : Entry) (zs : List Entry) (x : Entry) → Stands (put_by_key e zs) x → (e ≡ x) ⊎ Stands zs x
Stands-put e [] x stands = grind arith
Stands-put e (z ∷ zs) x stands = grind (arith, Stands-put e zs x)

pub Stands-sorted : (es : List Entry) (x : Entry) → Stands (by_key es) x → Stands es x
Stands-sorted [] x stands = stands
Stands-sorted (e ∷ es) x stands = grind (arith, Stands-put e (by_key es) x, Stands-sorted es x)

has_key-put : (key : List ℕ) (e : Entry) (zs : List Entry) → has_key key (put_by_key e zs) ≡ (pointwise nat_eq e.key key || has_key key zs)
has_key-put key e [] = refl
has_key-put key e (z ∷ zs) = grind (arith, has_key-put key e zs)

pub has_key-sorted : (key : List ℕ) (es : List Entry) → has_key key (by_key es) ≡ has_key key es
has_key-sorted key [] = refl
has_key-sorted key (e ∷ es) = grind (arith, has_key-put key e (by_key es), has_key-sorted key es)

length-put : (e : Entry) (zs : List Entry) → length (put_by_key e zs) ≡ suc (length zs)
length-put e [] = refl
length-put e (z ∷ zs) = grind (arith, length-put e zs)

pub length-sorted : (es : List Entry) → length (by_key es) ≡ length es
length-sorted [] = refl
length-sorted (e ∷ es) = grind (arith, length-put e (by_key es), length-sorted es)

-- ---- each key is below those after it

first_rises : (e z : Entry) (zs : List Entry) → text_lt z.key e.key ≡ true → IsRising (z ∷ zs) → (y : Entry) → Stands (put_by_key e zs) y → text_lt z.key y.key ≡ true
first_rises e z zs lt rising y stands = ⊎_elim (λ same. subst (λ (x : Entry). text_lt z.key x.key ≡ true) same lt) (λ there. rising.0 y there) (Stands-put e zs y stands)

first_is_put : (e z : Entry) (zs : List Entry) → text_lt e.key z.key ≡ true → IsRising (z ∷ zs) → (y : Entry) → Stands (z ∷ zs) y → text_lt e.key y.key ≡ true
first_is_put e z zs lt rising y (inl same) = subst (λ (x : Entry). text_lt e.key x.key ≡ true) same lt
first_is_put e z zs lt rising y (inr there) = text_lt-trans e.key z.key y.key lt (rising.0 y there)

IsRising-put : (e : Entry) (zs : List Entry) → has_key e.key zs ≡ false → IsRising zs → IsRising (put_by_key e zs)
IsRising-put e [] new rising = ((λ y stands. absurd stands), tt)
IsRising-put e (z ∷ zs) new rising =
    let apart : pointwise nat_eq z.key e.key ≡ false = grind arith in
    let others : has_key e.key zs ≡ false = grind arith in
    cond_both (text_lt z.key e.key) (z ∷ put_by_key e zs) (e ∷ z ∷ zs) IsRising
    (λ lt. (first_rises e z zs lt rising, IsRising-put e zs others rising.1))
    (λ ge. (first_is_put e z zs (text_lt-other z.key e.key ge apart) rising, rising))

pub IsRising-sorted : (es : List Entry) → are_distinct es ≡ true → IsRising (by_key es)
IsRising-sorted [] apart = tt
IsRising-sorted (e ∷ es) apart =
    let parts = and_parts (not (has_key e.key es)) (are_distinct es) apart in
    IsRising-put e (by_key es) (has_key-sorted e.key es ∙ not-true (has_key e.key es) parts.0) (IsRising-sorted es parts.1)

pub Stands-at : (xs : List Entry) (k : ℕ) (d : Entry) → k < length xs → Stands xs (get_or xs k d)
Stands-at [] k d lt = absurd (omega arith)
Stands-at (x ∷ xs) zero d lt = inl refl
Stands-at (x ∷ xs) (suc k) d lt = inr (Stands-at xs k d (omega arith))

pub rises : (xs : List Entry) → IsRising xs → (i j : ℕ) (d : Entry) → i < j → j < length xs → text_lt (get_or xs i d).key (get_or xs j d).key ≡ true
rises [] rising i j d lt within = absurd (omega arith)
rises (x ∷ xs) rising i zero d lt within = absurd (omega arith)
rises (x ∷ xs) rising zero (suc j) d lt within = rising.0 (get_or xs j d) (Stands-at xs j d (omega arith))
rises (x ∷ xs) rising (suc i) (suc j) d lt within = rises xs rising.1 i j d (omega arith) (omega arith)

pub IsRising-drop : (i : ℕ) (xs : List Entry) → IsRising xs → IsRising (drop i xs)
IsRising-drop zero xs rising = rising
IsRising-drop (suc i) [] rising = tt
IsRising-drop (suc i) (x ∷ xs) rising = IsRising-drop i xs rising.1

-- ---- what a search by key finds

most_index : (r : Ordering) → ordering_index r ≤ 2
most_index Less = omega arith
most_index Equal = omega arith
most_index Greater = omega arith

index_rises : (a b key : List ℕ) → text_lt a b ≡ true → ordering_index (slice_cmp nat_cmp a key) ≤ ordering_index (slice_cmp nat_cmp b key)
index_rises a b key lt = go (slice_cmp nat_cmp b key) refl
  where
    less : slice_cmp nat_cmp a b ≡ Less
    less = Less-from_is_lt (slice_cmp nat_cmp a b) lt

    go : (r : Ordering) → slice_cmp nat_cmp b key ≡ r → ordering_index (slice_cmp nat_cmp a key) ≤ ordering_index r
    go Less is = omega (arith, ap ordering_index (nat_list_cmp_total.trans a b key less is))
    go Equal is =
        let same : b ≡ key = slice_cmp-IsAntisymmetric nat_cmp-IsAntisymmetric b key is in
        omega (arith, ap ordering_index (subst (λ (k : List ℕ). slice_cmp nat_cmp a k ≡ Less) same less))
    go Greater is = most_index (slice_cmp nat_cmp a key)

pub index_never_falls : (key : List ℕ) (xs : List Entry) → IsRising xs → IsNonDecreasingBy (λ y. ordering_index (slice_cmp nat_cmp y.key key)) xs
index_never_falls key xs rising i j d le within =
    ⊎_elim
    (λ same. subst (λ (n : ℕ). ordering_index (slice_cmp nat_cmp (get_or xs i d).key key) ≤ ordering_index (slice_cmp nat_cmp (get_or xs n d).key key)) same (omega arith))
    (λ apart. index_rises (get_or xs i d).key (get_or xs j d).key key (rises xs rising i j d (omega (arith, le, apart)) within))
    (cases_eq i j)

all_apart : (key : List ℕ) (xs : List Entry) → ((k : ℕ) (d : Entry) → k < length xs → pointwise nat_eq (get_or xs k d).key key ≡ false) → has_key key xs ≡ false
all_apart key [] apart = refl
all_apart key (x ∷ xs) apart =
    let here : pointwise nat_eq x.key key ≡ false = apart 0 x (omega arith) in
    let others : has_key key xs ≡ false = all_apart key xs (λ k d lt. apart (suc k) d (omega arith)) in
    grind arith

module _ (key : List ℕ) (xs : List Entry) (i : ℕ) (point : IsPartitionPoint (λ (y : Entry). slice_cmp nat_cmp y.key key ≡ Less) (λ y. slice_cmp nat_cmp y.key key ≡ Greater) xs i) where
  pub none_found : has_key key xs ≡ false
  none_found = all_apart key xs (λ k d lt.
      ⊎_elim (λ front. apart-from_Less (get_or xs k d).key key (point.0 k d (omega arith) front))
      (λ back. apart-from_Greater (get_or xs k d).key key (point.1 k d back lt)) (cases_lt k i))

  pub below_place : AllWithin (λ (y : Entry). text_lt y.key key ≡ true) xs 0 i
  below_place k d le lt = ap is_lt (point.0 k d le lt)

  pub from_place : AllWithin (λ (y : Entry). text_lt y.key key ≡ false) xs i (length xs)
  from_place k d le lt = ap is_lt (point.1 k d le lt)

pub found_key : (x key : List ℕ) → slice_cmp nat_cmp x key ≡ Equal → x ≡ key
found_key x key is = slice_cmp-IsAntisymmetric nat_cmp-IsAntisymmetric x key is

-- ---- an entry of a new key

insert_is_put : (e : Entry) (zs : List Entry) (i : ℕ) → i ≤ length zs → AllWithin (λ y. text_lt y.key e.key ≡ true) zs 0 i → AllWithin (λ y. text_lt y.key e.key ≡ false) zs i (length zs)
    → put_by_key e zs ≡ insert zs i e
insert_is_put e [] zero le below from = refl
insert_is_put e [] (suc i) le below from = absurd (omega (arith, le))
insert_is_put e (z ∷ zs) zero le below from =
    let here : text_lt z.key e.key ≡ false = from 0 z (omega arith) (omega arith) in
    grind arith
insert_is_put e (z ∷ zs) (suc i) le below from =
    let here : text_lt z.key e.key ≡ true = below 0 z (omega arith) (omega arith) in
    let rest : put_by_key e zs ≡ insert zs i e = insert_is_put e zs i (omega (arith, le)) (λ k d l lt. below (suc k) d (omega arith) (omega (arith, lt))) (λ k d l lt. from (suc k) d (omega (arith, l)) (omega (arith, lt))) in
    grind arith

not_below : (a b c : List ℕ) → text_lt b a ≡ false → text_lt b c ≡ true → text_lt a c ≡ true
not_below a b c ge lt =
    ⊎_elim (λ same. subst (λ (t : List ℕ). text_lt t c ≡ true) ((bytes_decides b a).0 same) lt)
    (λ apart. text_lt-trans a b c (text_lt-other b a ge apart) lt) (cases_Bool (pointwise nat_eq b a))

put-swap : (x e : Entry) (zs : List Entry) → pointwise nat_eq x.key e.key ≡ false → put_by_key x (put_by_key e zs) ≡ put_by_key e (put_by_key x zs)
put-swap x e [] apart = grind (arith, text_lt-other x.key e.key, text_lt-back x.key e.key, text_lt-back e.key x.key)
put-swap x e (z ∷ zs) apart =
    grind (arith, put-swap x e zs, text_lt-other x.key e.key, text_lt-back x.key e.key, text_lt-back e.key x.key, not_below x.key z.key e.key, not_below e.key z.key x.key)

by_key-push : (e : Entry) (es : List Entry) → has_key e.key es ≡ false → by_key (es ++ e ∷ []) ≡ put_by_key e (by_key es)
by_key-push e [] new = refl
by_key-push e (x ∷ xs) new =
    let apart : pointwise nat_eq x.key e.key ≡ false = grind arith in
    let others : has_key e.key xs ≡ false = grind arith in
    ap (put_by_key x) (by_key-push e xs others) ∙ put-swap x e (by_key xs) apart

pub added : (e : Entry) (es : List Entry) (i : ℕ) → i ≤ length (by_key es)
    → IsPartitionPoint (λ (y : Entry). slice_cmp nat_cmp y.key e.key ≡ Less) (λ y. slice_cmp nat_cmp y.key e.key ≡ Greater) (by_key es) i
    → (es ++ e ∷ [] ≡ entries_after es (e ∷ [])) × (insert (by_key es) i e ≡ by_key (entries_after es (e ∷ [])))
added e es i le point =
    let new : has_key e.key es ≡ false = sym (has_key-sorted e.key es) ∙ none_found e.key (by_key es) i point in
    let whole = without-none e es new in (
      ap (λ (l : List Entry). l ++ e ∷ []) (sym whole),
      sym (ap (λ (l : List Entry). by_key (l ++ e ∷ [])) whole ∙ by_key-push e es new
          ∙ insert_is_put e (by_key es) i le (below_place e.key (by_key es) i point) (from_place e.key (by_key es) i point)),
    )

-- ---- what a filter leaves

put_lowest : (e : Entry) (zs : List Entry) → ((x : Entry) → Stands zs x → text_lt x.key e.key ≡ false) → put_by_key e zs ≡ e ∷ zs
put_lowest e [] least = refl
put_lowest e (z ∷ zs) least = let first = least z (inl refl) in grind arith

filter-put_out : (p : Entry → Bool) (e : Entry) (zs : List Entry) → p e ≡ false → filter p (put_by_key e zs) ≡ filter p zs
filter-put_out p e [] out = grind arith
filter-put_out p e (z ∷ zs) out = grind (arith, filter-put_out p e zs)

none_lower : (e z : Entry) (zs : List Entry) → IsRising (z ∷ zs) → text_lt z.key e.key ≡ false → (x : Entry) → Stands (z ∷ zs) x → text_lt x.key e.key ≡ false
none_lower e z zs rising ge x (inl same) = subst (λ (y : Entry). text_lt y.key e.key ≡ false) same ge
none_lower e z zs rising ge x (inr there) =
    ⊎_elim (λ lt. let both : true ≡ false = sym (text_lt-trans z.key x.key e.key (rising.0 x there) lt) ∙ ge in absurd (cc)) (λ no. no) (cases_Bool (text_lt x.key e.key))

filter-put_in : (p : Entry → Bool) (e : Entry) (zs : List Entry) → IsRising zs → p e ≡ true → filter p (put_by_key e zs) ≡ put_by_key e (filter p zs)
filter-put_in p e [] rising in' = grind arith
filter-put_in p e (z ∷ zs) rising in' =
    ⊎_elim
    (λ lt. let rest = filter-put_in p e zs rising.1 in' in grind arith)
    (λ ge.
    let lowest : put_by_key e (filter p (z ∷ zs)) ≡ e ∷ filter p (z ∷ zs) = put_lowest e (filter p (z ∷ zs)) (λ x s. none_lower e z zs rising ge x (of_kept p (z ∷ zs) x s).0) in
    let first : put_by_key e (z ∷ zs) ≡ e ∷ z ∷ zs = grind arith in
    let front : filter p (e ∷ z ∷ zs) ≡ e ∷ filter p (z ∷ zs) = rw in' refl in
    ap (filter p) first ∙ front ∙ sym lowest)
    (cases_Bool (text_lt z.key e.key))

pub filter-sorted : (p : Entry → Bool) (es : List Entry) → are_distinct es ≡ true → filter p (by_key es) ≡ by_key (filter p es)
filter-sorted p [] apart = refl
filter-sorted p (e ∷ es) apart =
    let others = (and_parts (not (has_key e.key es)) (are_distinct es) apart).1 in
    let rest = filter-sorted p es others in
    ⊎_elim
    (λ kept. let step = filter-put_in p e (by_key es) (IsRising-sorted es others) kept in grind arith)
    (λ gone. let step = filter-put_out p e (by_key es) gone in grind arith)
    (cases_Bool (p e))

-- ---- an entry in place of its key's

differs : (z y : List ℕ) → text_lt z y ≡ true → pointwise nat_eq y z ≡ false
differs z y lt = ⊎_elim
    (λ same. let both : true ≡ false = sym (subst (λ (t : List ℕ). text_lt z t ≡ true) ((bytes_decides y z).0 same) lt) ∙ text_lt-same z in absurd (cc)) (λ no. no) (cases_Bool (pointwise nat_eq y z))

none_behind : (key : List ℕ) (zs : List Entry) → ((y : Entry) → Stands zs y → text_lt key y.key ≡ true) → has_key key zs ≡ false
none_behind key [] behind = refl
none_behind key (z ∷ zs) behind =
    let here : pointwise nat_eq z.key key ≡ false = differs key z.key (behind z (inl refl)) in
    let others : has_key key zs ≡ false = none_behind key zs (λ y s. behind y (inr s)) in
    grind arith

set_is_put : (e : Entry) (zs : List Entry) (i : ℕ) → IsRising zs → i < length zs → ((d : Entry) → (get_or zs i d).key ≡ e.key) → put_by_key e (entries_without_keys (e ∷ []) zs) ≡ set zs i e
set_is_put e [] i rising within at = absurd (omega (arith, within))
set_is_put e (z ∷ zs) zero rising within at =
    let same : z.key ≡ e.key = at e in
    let above : (y : Entry) → Stands zs y → text_lt e.key y.key ≡ true = λ y s. subst (λ (t : List ℕ). text_lt t y.key ≡ true) same (rising.0 y s) in
    let others : entries_without_keys (e ∷ []) zs ≡ zs = without-none e zs (none_behind e.key zs above) in
    let lowest : put_by_key e zs ≡ e ∷ zs = put_lowest e zs (λ y s. text_lt-back e.key y.key (above y s)) in
    let gone : pointwise nat_eq e.key z.key ≡ true = (bytes_decides e.key z.key).1 (sym same) in
    grind arith
set_is_put e (z ∷ zs) (suc i) rising within at =
    let lt : text_lt z.key e.key ≡ true = subst (λ (t : List ℕ). text_lt z.key t ≡ true) (at e) (rises (z ∷ zs) rising 0 (suc i) e (omega arith) within) in
    let stays : pointwise nat_eq e.key z.key ≡ false = differs z.key e.key lt in
    let rest : put_by_key e (entries_without_keys (e ∷ []) zs) ≡ set zs i e = set_is_put e zs i rising.1 (omega (arith, within)) at in
    grind arith

pub replaced : (e : Entry) (es : List Entry) (i : ℕ) → are_distinct es ≡ true → i < length (by_key es) → ((d : Entry) → (get_or (by_key es) i d).key ≡ e.key)
    → set (by_key es) i e ≡ by_key (entries_after es (e ∷ []))
replaced e es i apart within at =
    sym (by_key-push e (entries_without_keys (e ∷ []) es) (has_key-without e es)
    ∙ ap (put_by_key e) (sym (filter-sorted (λ entry. not (has_key entry.key (e ∷ []))) es apart))
    ∙ set_is_put e (by_key es) i (IsRising-sorted es apart) within at)

-- ---- the old entry, by its version

pub removed_here : (low : ℕ) (es : List Entry) (x e : Entry) (i : ℕ) → are_ascending low es ≡ true → are_distinct es ≡ true → Stands es x → x.key ≡ e.key
    → AllWithin (λ y. nat_lt y.version x.version ≡ true) es 0 i → AllWithin (λ y. nat_lt y.version x.version ≡ false) es i (length es)
    → (i < length es) × (remove es i ≡ entries_without_keys (e ∷ []) es)
removed_here low [] x e i up apart stands key below from = absurd stands
removed_here low (y ∷ ys) x e zero up apart (inl same) key below from =
    let parts = and_parts (not (has_key y.key ys)) (are_distinct ys) apart in
    let is : y.key ≡ e.key = ap (λ (z : Entry). z.key) same ∙ key in
    let alone : has_key e.key ys ≡ false = ap (λ (k : List ℕ). has_key k ys) (sym is) ∙ not-true (has_key y.key ys) parts.0 in
    let others : entries_without_keys (e ∷ []) ys ≡ ys = without-none e ys alone in
    let gone : pointwise nat_eq e.key y.key ≡ true = (bytes_decides e.key y.key).1 (sym is) in
    let left : remove (y ∷ ys) 0 ≡ entries_without_keys (e ∷ []) (y ∷ ys) = grind arith in
    (omega arith, left)
removed_here low (y ∷ ys) x e zero up apart (inr there) key below from =
    let rises = and_parts (nat_lt low y.version) (are_ascending y.version ys) up in
    let here : nat_lt y.version x.version ≡ false = from 0 y (omega arith) (omega arith) in
    let later = behind y.version ys x rises.1 there in
    absurd (grind (arith, nat_tests))
removed_here low (y ∷ ys) x e (suc i) up apart (inl same) key below from =
    let here : nat_lt y.version x.version ≡ true = below 0 y (omega arith) (omega arith) in
    let is : y.version ≡ x.version = ap (λ (z : Entry). z.version) same in
    absurd (grind (arith, nat_tests))
removed_here low (y ∷ ys) x e (suc i) up apart (inr there) key below from =
    let rises = and_parts (nat_lt low y.version) (are_ascending y.version ys) up in
    let parts = and_parts (not (has_key y.key ys)) (are_distinct ys) apart in
    let rest = removed_here y.version ys x e i rises.1 parts.1 there key (λ k d l lt. below (suc k) d (omega arith) (omega (arith, lt))) (λ k d l lt. from (suc k) d (omega (arith, l)) (omega (arith, lt))) in
    let stays : pointwise nat_eq e.key y.key ≡ false = ⊎_elim
    (λ is. absurd (not_there y.key ys x parts.0 there (key ∙ (bytes_decides e.key y.key).0 is))) (λ no. no) (cases_Bool (pointwise nat_eq e.key y.key)) in
    let most : remove ys i ≡ entries_without_keys (e ∷ []) ys = rest.1 in
    let left : remove (y ∷ ys) (suc i) ≡ entries_without_keys (e ∷ []) (y ∷ ys) = grind arith in
    (omega (arith, rest.0), left)

-- ---- what `enter` leaves

pub old_found : (es now : List Entry) (e x : Entry) (v i : ℕ) → now ≡ es → IsPlainTable (plain_table es) → Stands es x × (x.key ≡ e.key) → v ≡ x.version
    → AllWithin (λ y. nat_lt y.version v ≡ true) now 0 i → AllWithin (λ y. nat_lt y.version v ≡ false) now i (length now)
    → (i < length now) × (remove now i ≡ entries_without_keys (e ∷ []) es)
old_found es now e x v i is table stands version below from =
    let below' = subst (λ (n : ℕ). AllWithin (λ (y : Entry). nat_lt y.version n ≡ true) now 0 i) version below in
    let from' = subst (λ (n : ℕ). AllWithin (λ (y : Entry). nat_lt y.version n ≡ false) now i (length now)) version from in
    let here = removed_here 0 es x e i table.run.ascending table.run.distinct stands.0 stands.1
    (subst (λ (l : List Entry). AllWithin (λ (y : Entry). nat_lt y.version x.version ≡ true) l 0 i) is below')
    (subst (λ (l : List Entry). AllWithin (λ (y : Entry). nat_lt y.version x.version ≡ false) l i (length l)) is from') in
    subst (λ (l : List Entry). (i < length l) × (remove l i ≡ entries_without_keys (e ∷ []) es)) (sym is) here

pub found_stands : (es ks : List Entry) (key : List ℕ) (e : Entry) (i : ℕ) → ks ≡ by_key es → i < length ks → HoldsAt (λ (y : Entry). slice_cmp nat_cmp y.key key ≡ Equal) ks i → key ≡ e.key
    → HoldsAt (λ x. Stands es x × (x.key ≡ e.key)) ks i
found_stands es ks key e i is lt at same d =
    (Stands-sorted es (get_or ks i d) (subst (λ (l : List Entry). Stands l (get_or ks i d)) is (Stands-at ks i d lt)), found_key (get_or ks i d).key key (at d) ∙ same)

pub replaced_at : (es ks : List Entry) (key : List ℕ) (e : Entry) (i : ℕ) → ks ≡ by_key es → i < length ks → HoldsAt (λ (y : Entry). slice_cmp nat_cmp y.key key ≡ Equal) ks i → key ≡ e.key
    → are_distinct es ≡ true → set ks i e ≡ by_key (entries_after es (e ∷ []))
replaced_at es ks key e i is lt at same apart =
    ap (λ (l : List Entry). set l i e) is
    ∙ replaced e es i apart (subst (λ (l : List Entry). i < length l) is lt)
    (λ d. found_key (get_or (by_key es) i d).key key (subst (λ (l : List Entry). slice_cmp nat_cmp (get_or l i d).key key ≡ Equal) is (at d)) ∙ same)

abbrev pub SaysPlace : List ℕ → List Entry → ℕ → Type 0
SaysPlace key ks i = IsNonDecreasingBy (λ (y : Entry). ordering_index (slice_cmp nat_cmp y.key key)) ks
    → IsPartitionPoint (λ (y : Entry). slice_cmp nat_cmp y.key key ≡ Less) (λ y. slice_cmp nat_cmp y.key key ≡ Greater) ks i

pub added_at : (es ks : List Entry) (key : List ℕ) (e : Entry) (i : ℕ) → ks ≡ by_key es → i ≤ length ks → SaysPlace key ks i → key ≡ e.key → are_distinct es ≡ true
    → (es ++ e ∷ [] ≡ entries_after es (e ∷ [])) × (insert ks i e ≡ by_key (entries_after es (e ∷ [])))
added_at es ks key e i is le point same apart =
    let point' : SaysPlace e.key (by_key es) i = subst (λ (k : List ℕ). SaysPlace k (by_key es) i) same (subst (λ (l : List Entry). SaysPlace key l i) is point) in
    let done = added e es i (subst (λ (l : List Entry). i ≤ length l) is le) (point' (index_never_falls e.key (by_key es) (IsRising-sorted es apart))) in
    (done.0, ap (λ (l : List Entry). insert l i e) is ∙ done.1)

pub none_at : (es ks : List Entry) (key : List ℕ) (i : ℕ) → ks ≡ by_key es → SaysPlace key ks i → are_distinct es ≡ true → has_key key es ≡ false
none_at es ks key i is point apart =
    let point' : SaysPlace key (by_key es) i = subst (λ (l : List Entry). SaysPlace key l i) is point in
    sym (has_key-sorted key es) ∙ none_found key (by_key es) i (point' (index_never_falls key (by_key es) (IsRising-sorted es apart)))

pub some_at : (es ks : List Entry) (key : List ℕ) (i : ℕ) (x : Entry) → ks ≡ by_key es → i < length ks → HoldsAt (λ (y : Entry). slice_cmp nat_cmp y.key key ≡ Equal) ks i → x ≡ get_or ks i x
    → are_distinct es ≡ true → entry_at key es ≡ Some x
some_at es ks key i x is lt at read apart =
    let key_is : x.key ≡ key = ap (λ (y : Entry). y.key) read ∙ found_key (get_or ks i x).key key (at x) in
    let there : Stands es x = subst (λ (y : Entry). Stands es y) (sym read) (Stands-sorted es (get_or ks i x) (subst (λ (l : List Entry). Stands l (get_or ks i x)) is (Stands-at ks i x lt))) in
    subst (λ (k : List ℕ). entry_at k es ≡ Some x) key_is (entry_at-stands es x apart there)

one_of : (ks : List Entry) (i : ℕ) → i < length ks → Entry
one_of [] i lt = absurd (omega (arith, lt))
one_of (x ∷ xs) i lt = x

has_at : (es ks : List Entry) (key : List ℕ) (i : ℕ) (d : Entry) → ks ≡ by_key es → i < length ks → HoldsAt (λ (y : Entry). slice_cmp nat_cmp y.key key ≡ Equal) ks i → has_key key es ≡ true
has_at es ks key i d is lt at =
    has key es (get_or ks i d) (Stands-sorted es (get_or ks i d) (subst (λ (l : List Entry). Stands l (get_or ks i d)) is (Stands-at ks i d lt))) (found_key (get_or ks i d).key key (at d))

pub has_is : (r : Result ℕ ℕ) (es ks : List Entry) (key : List ℕ) → ks ≡ by_key es → IsSearchInRange r (length ks) → IsBinarySearchResult (λ (y : Entry). slice_cmp nat_cmp y.key key) ks r
    → are_distinct es ≡ true → is_ok r ≡ has_key key es
has_is (Ok i) es ks key is bound at apart = sym (has_at es ks key i (one_of ks i bound) is bound at)
has_is (Err i) es ks key is bound at apart = sym (none_at es ks key i is at apart)

pub lent : (n : ℕ) (slot : Slot) (y x : Entry) → n ≡ y.version → slot ≡ y.slot → y ≡ x → Some (n, slot) ≡ option_map version_and_slot (Some x)
lent n slot y x number is same = ap₂ (λ (m : ℕ) (t : Slot). Some (m, t)) number is ∙ ap (λ (e : Entry). Some (e.version, e.slot)) same

pub keys_after : (r : Result (Unit {0}) Fault) (e : Entry) (es new ks new_ks changed : List Entry) → OnOk r ((new ≡ entries_after es (e ∷ [])) × (new_ks ≡ changed)) → OnErr r ((new ≡ es) × (new_ks ≡ ks))
    → ks ≡ by_key es → changed ≡ by_key (entries_after es (e ∷ [])) → new_ks ≡ by_key new
keys_after (Ok done) e es new ks new_ks changed ok err old is = ok.1 ∙ is ∙ ap by_key (sym ok.0)
keys_after (Err fault) e es new ks new_ks changed ok err old is = err.1 ∙ old ∙ ap by_key (sym err.0)

-- the same, where the entry is new
pub pushed_after : (r : Result (Unit {0}) Fault) (e : Entry) (es new ks new_ks changed : List Entry) → OnOk r ((new ≡ es ++ e ∷ []) × (new_ks ≡ changed))
    → es ++ e ∷ [] ≡ entries_after es (e ∷ []) → OnOk r ((new ≡ entries_after es (e ∷ [])) × (new_ks ≡ changed))
pushed_after (Ok done) e es new ks new_ks changed ok is = (ok.0 ∙ is, ok.1)
pushed_after (Err fault) e es new ks new_ks changed ok is = tt

pub entered_after : (r : Result (Unit {0}) Fault) (new want new_ks changed : List Entry) → OnOk r ((new ≡ want) × (new_ks ≡ changed)) → OnOk r (new ≡ want)
entered_after (Ok done) new want new_ks changed ok = ok.0
entered_after (Err fault) new want new_ks changed ok = tt

-- ---- the keys that begin with a prefix

pub filter-front : (p : Entry → Bool) (xs : List Entry) (i : ℕ) → AllWithin (λ y. p y ≡ true) xs 0 i → AllWithin (λ y. p y ≡ false) xs i (length xs) → take i xs ≡ filter p xs
filter-front p [] zero passes fails = refl
filter-front p [] (suc i) passes fails = refl
filter-front p (x ∷ xs) zero passes fails =
    let here : p x ≡ false = fails 0 x (omega arith) (omega arith) in
    let rest : take 0 xs ≡ filter p xs = filter-front p xs 0 (λ k d l lt. absurd (omega (arith, lt))) (λ k d l lt. fails (suc k) d (omega arith) (omega (arith, lt))) in
    grind arith
filter-front p (x ∷ xs) (suc i) passes fails =
    let here : p x ≡ true = passes 0 x (omega arith) (omega arith) in
    let rest : take i xs ≡ filter p xs = filter-front p xs i (λ k d l lt. passes (suc k) d (omega arith) (omega (arith, lt))) (λ k d l lt. fails (suc k) d (omega (arith, l)) (omega (arith, lt))) in
    grind arith

pub filter-behind : (p : Entry → Bool) (xs : List Entry) (i : ℕ) → AllWithin (λ y. p y ≡ false) xs 0 i → filter p (drop i xs) ≡ filter p xs
filter-behind p xs zero fails = refl
filter-behind p [] (suc i) fails = refl
filter-behind p (x ∷ xs) (suc i) fails =
    let here : p x ≡ false = fails 0 x (omega arith) (omega arith) in
    let rest : filter p (drop i xs) ≡ filter p xs = filter-behind p xs i (λ k d l lt. fails (suc k) d (omega arith) (omega (arith, lt))) in
    grind arith

le_or_lt : (xs : List Entry) → IsRising xs → (i j : ℕ) (d : Entry) → i ≤ j → j < length xs → text_lt (get_or xs j d).key (get_or xs i d).key ≡ false
le_or_lt xs rising i j d le within =
    ⊎_elim (λ same. subst (λ (n : ℕ). text_lt (get_or xs n d).key (get_or xs i d).key ≡ false) same (text_lt-same (get_or xs i d).key))
    (λ apart. text_lt-back (get_or xs i d).key (get_or xs j d).key (rises xs rising i j d (omega (arith, le, apart)) within))
    (cases_eq i j)

pub parted-start : (prefix : List ℕ) (xs : List Entry) → IsRising xs → IsPartitionedBy (λ e. text_lt e.key prefix) xs
parted-start prefix xs rising i j d le within lt = not_below (get_or xs i d).key (get_or xs j d).key prefix (le_or_lt xs rising i j d le within) lt

is_from : (start text : List ℕ) → text_lt text start ≡ false → is_le (slice_cmp nat_cmp start text) ≡ true
is_from start text ge = le_from (slice_cmp nat_cmp text start) (slice_cmp nat_cmp start text) (nat_list_cmp_total.antisymm start text) ge
  where
    le_from : (r s : Ordering) → s ≡ ordering_reverse r → is_lt r ≡ false → is_le s ≡ true
    le_from Less s back fails = absurd (cc)
    le_from Equal s back fails = ap is_le back
    le_from Greater s back fails = ap is_le back

pub parted-under : (prefix : List ℕ) (xs : List Entry) → IsRising xs → AllWithin (λ e. text_lt e.key prefix ≡ false) xs 0 (length xs) → IsPartitionedBy (λ e. starts_with nat_eq e.key prefix) xs
parted-under prefix xs rising from i j d le within starts =
    starts-between prefix (get_or xs i d).key (get_or xs j d).key (is_from prefix (get_or xs i d).key (from i d (omega arith) (omega (arith, le, within)))) (le_or_lt xs rising i j d le within) starts

starts_not : (prefix key : List ℕ) → text_lt key prefix ≡ true → starts_with nat_eq key prefix ≡ false
starts_not prefix key lt = ⊎_elim
    (λ starts. let both : true ≡ false = sym (text_le-text_lt prefix key prefix (starts-behind key prefix starts) lt) ∙ text_lt-same prefix in absurd (cc)) (λ other. other) (cases_Bool (starts_with nat_eq key prefix))

-- what is before the prefix does not begin so
pub under-from : (prefix : List ℕ) (xs : List Entry) (i : ℕ) → AllWithin (λ e. text_lt e.key prefix ≡ true) xs 0 i → filter (λ e. starts_with nat_eq e.key prefix) (drop i xs) ≡ filter (λ e. starts_with nat_eq e.key prefix) xs
under-from prefix xs i before = filter-behind (λ e. starts_with nat_eq e.key prefix) xs i (λ k d le lt. starts_not prefix (get_or xs k d).key (before k d le lt))

pub from-dropped : (prefix : List ℕ) (xs : List Entry) (i : ℕ) → AllWithin (λ e. text_lt e.key prefix ≡ false) xs i (length xs) → AllWithin (λ e. text_lt e.key prefix ≡ false) (drop i xs) 0 (length (drop i xs))
from-dropped prefix xs zero from = from
from-dropped prefix [] (suc i) from = λ k d le lt. absurd (omega (arith, lt))
from-dropped prefix (x ∷ xs) (suc i) from = from-dropped prefix xs i (λ k d le lt. from (suc k) d (omega (arith, le)) (omega (arith, lt)))

-- a closure that stays as it was answers each call so
pub answers_there : {F X R : Type 0} (g : Mut F X R) (P : X → R → Type 0) (f : F) → ((a : X) (r : R) (f' : F) → Called g f a r f' → P a r × (f' ≡ f)) → AlwaysReturns g P f
answers_there g P f step = answers_by g P (λ q. q ≡ f) (λ q a r q' called same. step a r q' (subst (λ t. Called g t a r q') same called)) f refl

pub take_rest : (i : ℕ) (xs : List Entry) → take (length xs - i) (drop i xs) ≡ drop i xs
take_rest i xs = take_all (length xs - i) (drop i xs) (omega (arith, length-drop i xs))

-- ---- what stays a table

pub plain-kept : (p : Entry → Bool) (es : List Entry) → IsPlainTable (plain_table es) → IsPlainTable (plain_table (filter p es))
plain-kept p es is = record {
  run = record {
    ascending = ascending_kept p 0 es is.run.ascending;
    most = omega arith;
    distinct = are_distinct-filter p es is.run.distinct;
  };
  floor = refl;
  last = refl;
  limit = omega (arith, length-filter_le p es, is.limit);
}
