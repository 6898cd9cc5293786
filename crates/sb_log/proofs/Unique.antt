-- Rows hold the entries of one table alone.
use Rattle.std.proofs.Common.{◌≡◌, ℕ, zero, suc, ◌<◌, ◌≤◌, add-one, arith, is_lt, length, get_or, true, false, List, [], ◌∷◌, map, refl, sym, ap, subst, subst₂, ◌∙◌, IsPermutation, IsSorted}
use Rattle.std.specs.Prelude.{nat_lt}
use Rattle.std.proofs.lemmas.List.Sorted.{IsPermutation-refl, IsPermutation-cons, IsPermutation-middle, IsPermutation-sym, IsPermutation-map, IsPermutation-trans}
use Rattle.sqlite_value.specs.Order.{Row}
use Rattle.sb_types.specs.declared.entry.Slot.{Slot}
use Rattle.sb_types.specs.Records.{Entry, Table}
use Rattle.sb_types.specs.Runs.{are_ascending}
use Rattle.std.proofs.lemmas.Bool.{and_parts, cond_both}
use Rattle.std.proofs.lemmas.Bool.Decides.{nat_tests}
use Rattle.sb_types.proofs.DistinctKeys.{by_version, versions_sorted_back}
use Rattle.sb_table.specs.Plain.{IsPlainTable, plain_table}
use Rattle.sb_log.specs.Rows.{cells, cells_of, entry_by, put_by_version, in_order, AreRowsOf}
use Rattle.sb_log.proofs.Slots.{slot_back}

-- the cells tell the entry
pub entry_back : (e : Entry) → entry_by (cells_of e) ≡ e
entry_back e = ap (λ (s : Slot). let x : Entry = record { key = e.key; version = e.version; slot = s } in x) (slot_back e.slot)

entries_back : (es : List Entry) → map entry_by (map cells_of es) ≡ es
entries_back [] = refl
entries_back (e ∷ es) = λ i. entry_back e i ∷ entries_back es i

same_entries : (xs ys : List Entry) → IsPermutation (map cells_of xs) (map cells_of ys) → IsPermutation xs ys
same_entries xs ys same = subst₂ IsPermutation (entries_back xs) (entries_back ys) (IsPermutation-map entry_by (map cells_of xs) (map cells_of ys) same)

pub plain_is : (t : Table) → IsPlainTable t → t ≡ plain_table t.entries
plain_is t is = λ i. record { held = is.last i; floor = is.floor i; entries = t.entries }

neighbours : (last : ℕ) (xs : List Entry) → are_ascending last xs ≡ true → (k : ℕ) (d : Entry) → suc k < length xs → is_lt (by_version (get_or xs (suc k) d) (get_or xs k d)) ≡ false
neighbours last [] up k d high = absurd (omega arith)
neighbours last (x ∷ []) up k d high = absurd (omega arith)
neighbours last (x ∷ y ∷ ys) up zero d high = grind (arith, nat_tests)
neighbours last (x ∷ y ∷ ys) up (suc k) d high = neighbours x.version (y ∷ ys) (and_parts _ _ up).1 k d (omega arith)

ascending_sorted : (last : ℕ) (xs : List Entry) → are_ascending last xs ≡ true → IsSorted by_version xs
ascending_sorted last xs up k d low high =
    subst (λ (n : ℕ). is_lt (by_version (get_or xs n d) (get_or xs k d)) ≡ false) (sym (add-one k)) (neighbours last xs up k d (omega arith))

-- so what the rows hold is one table
pub one_table : (rows : List Row) (s t : Table) → AreRowsOf s rows → AreRowsOf t rows → t ≡ s
one_table rows s t first second =
    let same = same_entries s.entries t.entries (IsPermutation-trans _ _ _ (IsPermutation-sym _ _ first.same) second.same) in
    let entries : t.entries ≡ s.entries = versions_sorted_back 0 s.entries t.entries first.plain.run.ascending same (ascending_sorted 0 t.entries second.plain.run.ascending) in
    plain_is t second.plain ∙ ap plain_table entries ∙ sym (plain_is s first.plain)

-- ---- the order of versions

same-put_by_version : (e : Entry) (zs : List Entry) → IsPermutation (e ∷ zs) (put_by_version e zs)
same-put_by_version e [] = IsPermutation-refl (e ∷ [])
same-put_by_version e (z ∷ zs) =
    cond_both (nat_lt z.version e.version) (z ∷ put_by_version e zs) (e ∷ z ∷ zs) (λ es. IsPermutation (e ∷ z ∷ zs) es)
    (λ _. IsPermutation-trans (e ∷ z ∷ zs) (z ∷ e ∷ zs) (z ∷ put_by_version e zs) (IsPermutation-middle (e ∷ []) z zs)
    (IsPermutation-cons z (e ∷ zs) (put_by_version e zs) (same-put_by_version e zs)))
    (λ _. IsPermutation-refl (e ∷ z ∷ zs))

same-in_order : (es : List Entry) → IsPermutation es (in_order es)
same-in_order [] = IsPermutation-refl []
same-in_order (e ∷ es) =
    IsPermutation-trans (e ∷ es) (e ∷ in_order es) (put_by_version e (in_order es)) (IsPermutation-cons e es (in_order es) (same-in_order es)) (same-put_by_version e (in_order es))

-- the first of the list has no lesser version than x
abbrev FollowsOn : Entry → List Entry → Type 0
FollowsOn x [] = Unit {0}
FollowsOn x (y ∷ ys) = x.version ≤ y.version

abbrev IsInOrder : List Entry → Type 0
IsInOrder [] = Unit {0}
IsInOrder (x ∷ xs) = FollowsOn x xs × IsInOrder xs

follows-put : (x e : Entry) (zs : List Entry) → nat_lt x.version e.version ≡ true → FollowsOn x zs → FollowsOn x (put_by_version e zs)
follows-put x e [] lt follows = grind (arith, nat_tests)
follows-put x e (z ∷ zs) lt follows = cond_both (nat_lt z.version e.version) (z ∷ put_by_version e zs) (e ∷ z ∷ zs) (FollowsOn x) (λ _. follows) (λ _. grind (arith, nat_tests))

ordered-put : (e : Entry) (zs : List Entry) → IsInOrder zs → IsInOrder (put_by_version e zs)
ordered-put e [] ordered = (tt, tt)
ordered-put e (z ∷ zs) ordered =
    cond_both (nat_lt z.version e.version) (z ∷ put_by_version e zs) (e ∷ z ∷ zs) IsInOrder
    (λ lt. (follows-put z e zs lt ordered.0, ordered-put e zs ordered.1)) (λ ge. (grind (arith, nat_tests), ordered))

ordered : (es : List Entry) → IsInOrder (in_order es)
ordered [] = tt
ordered (e ∷ es) = ordered-put e (in_order es) (ordered es)

next_follows : (es : List Entry) → IsInOrder es → (k : ℕ) (d : Entry) → suc k < length es → (get_or es k d).version ≤ (get_or es (suc k) d).version
next_follows [] up k d lt = absurd (omega arith)
next_follows (x ∷ []) up k d lt = absurd (omega arith)
next_follows (x ∷ y ∷ ys) up zero d lt = up.0
next_follows (x ∷ y ∷ ys) up (suc k) d lt = next_follows (y ∷ ys) up.1 k d (omega arith)

not_less : (a b : Entry) → a.version ≤ b.version → is_lt (by_version b a) ≡ false
not_less a b le = grind (arith, nat_tests)

sorted : (es : List Entry) → IsSorted by_version (in_order es)
sorted es k d low high =
    subst (λ (n : ℕ). is_lt (by_version (get_or (in_order es) n d) (get_or (in_order es) k d)) ≡ false) (sym (add-one k))
    (not_less (get_or (in_order es) k d) (get_or (in_order es) (suc k) d) (next_follows (in_order es) (ordered es) k d (omega arith)))

-- the entries in the order of their versions
pub in_order_is : (xs ys : List Entry) → are_ascending 0 xs ≡ true → IsPermutation xs ys → in_order ys ≡ xs
in_order_is xs ys up same = versions_sorted_back 0 xs (in_order ys) up (IsPermutation-trans _ _ _ same (same-in_order ys)) (sorted ys)

mapped : (rows : List Row) → map entry_by (map cells rows) ≡ map (λ (row : Row). entry_by (cells row)) rows
mapped [] = refl
mapped (r ∷ rows) = ap (λ (es : List Entry). entry_by (cells r) ∷ es) (mapped rows)

pub entries_of : (rows : List Row) (t : Table) → AreRowsOf t rows → IsPermutation t.entries (map (λ (row : Row). entry_by (cells row)) rows)
entries_of rows t are =
    subst₂ IsPermutation (entries_back t.entries) (mapped rows) (IsPermutation-map entry_by (map cells_of t.entries) (map cells rows) (IsPermutation-sym _ _ are.same))

-- so in the order of their versions the rows of a table hold its entries
pub entries_are : (rows : List Row) (t : Table) → AreRowsOf t rows → in_order (map (λ (row : Row). entry_by (cells row)) rows) ≡ t.entries
entries_are rows t are = in_order_is t.entries _ are.plain.run.ascending (entries_of rows t are)
