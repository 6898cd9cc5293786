-- Of the rows of a whole table nothing is taken for damage.
use Rattle.std.proofs.Common.{◌≡◌, ℕ, zero, suc, pos, ◌<◌, ◌≤◌, true, false, List, [], ◌∷◌, ◌++◌, length, map, take, drop, flat_map, get_or, Option, None, Some, Result, Ok, Err, refl, sym, ap, subst, ◌∙◌, arith, add-one, Equal, is_lt, int_cmp, nat_cmp, IsPermutation, IsSorted, length-append}
use Rattle.std.specs.List.{AllByRecursion, list_all}
use Rattle.std.specs.Ordering.{ordering_then}
use Rattle.std.specs.Prelude.{nat_eq, IfSome, IfErr}
use Rattle.std.specs.Option.{option_map}
use Rattle.std.specs.Cmp.Lexicographic.{pointwise}
use Rattle.std.proofs.lemmas.Bool.{and_parts, ltb-true}
use Rattle.std.proofs.lemmas.Bool.Decides.{nat_tests}
use Rattle.std.proofs.lemmas.Cmp.{nat_list_eq_equiv}
use Rattle.std.proofs.lemmas.Int.{ints}
use Rattle.std.proofs.lemmas.List.Folds.{list_any-append}
use Rattle.std.proofs.lemmas.List.Sorted.{IsPermutation-map, IsPermutation-sym, IsPermutation-trans}
use Rattle.sqlite_value.specs.declared.value.Value.TheVariants.{Null, Int}
use Rattle.sqlite_value.specs.Order.{Row, column, value_cmp}
use Rattle.sqlite_value.proofs.OrderLemmas.{value_cmp-Int, then-Equal}
use Rattle.sqlite_trees.specs.Tree.{rowid}
use Rattle.sqlite_trees.specs.View.{is_int}
use Rattle.sqlite_trees.proofs.ListLemmas.{all-permutation}
use Rattle.sqlite_sql.specs.Query.{IsAnswer, Output, output, output_cmp}
use Rattle.sqlite_sql.specs.Program.{overlay}
use Rattle.sqlite.specs.State.{State, Shown}
use Rattle.sqlite.proofs.Callers.{reads_as}
use Rattle.sb_types.specs.declared.limits.TheConstants.{KEYS_MOST}
use Rattle.sb_types.specs.declared.fault.Fault.{Fault}
use Rattle.sb_types.specs.declared.fault.Fault.TheVariants.{NoMemory, LogDamaged}
use Rattle.sb_types.specs.Records.{Entry, Table}
use Rattle.sb_types.specs.Runs.{are_ascending, are_distinct, entry_at, has_key, last_version}
use Rattle.sb_types.proofs.DistinctKeys.{by_version, versions_sorted_back}
use Rattle.sb_table.specs.Plain.{IsPlainTable, version_and_slot}
use Rattle.sb_table.proofs.Lookup.{entry_at-none}
use Rattle.sb_log.specs.Form.{rows_text, log_schema}
use Rattle.sb_log.specs.Rows.{cells, cells_of, entry_by, is_kept, numbered_cells, AreNumbered, AreNumberedApart, AreRowsOf}
use Rattle.sb_log.proofs.Reading.{counted_alike}
use Rattle.sb_log.proofs.Texts.{rows_query, rows_is, rows_plain}
use Rattle.sb_log.proofs.Unique.{entry_back, entries_of}

-- ---- the rows come in the order of their versions

abbrev entry_shown : Output → Entry
entry_shown o = entry_by (drop 1 o.1)

-- it shows an entry, and stands by its version
abbrev IsWhole : Output → Type 0
IsWhole o = (o.0 ≡ Int (pos (entry_shown o).version) ∷ []) × (drop 1 o.1 ≡ cells_of (entry_shown o))

abbrev outputs : List Row → List Output
outputs rows = map (output rows_query) (flat_map (λ (r : Row). ([] ∷ r ∷ []) ∷ []) rows)

whole_each : (rows : List Row) → AllByRecursion (λ (c : Row). c ≡ cells_of (entry_by c)) (map cells rows) → AllByRecursion IsWhole (outputs rows)
whole_each [] all = tt
whole_each (r ∷ rows) all = ((ap (λ (c : Row). column c 1 ∷ []) all.0, all.0), whole_each rows all.1)

backs : (es : List Entry) → AllByRecursion (λ (c : Row). c ≡ cells_of (entry_by c)) (map cells_of es)
backs [] = tt
backs (e ∷ es) = (ap cells_of (sym (entry_back e)), backs es)

entries_shown : (rows : List Row) → map entry_shown (outputs rows) ≡ map (λ (row : Row). entry_by (cells row)) rows
entries_shown [] = refl
entries_shown (r ∷ rows) = ap (λ (es : List Entry). entry_by (cells r) ∷ es) (entries_shown rows)

cells_shown : (os : List Output) → AllByRecursion IsWhole os → map (drop 1) (map (λ (o : Output). o.1) os) ≡ map cells_of (map entry_shown os)
cells_shown [] all = refl
cells_shown (o ∷ os) all = λ i. all.0.1 i ∷ cells_shown os all.1 i

int_order : (m n : ℕ) → int_cmp (pos m) (pos n) ≡ nat_cmp m n
int_order m n = grind (arith, ints, nat_tests)

version_order : (m n : ℕ) → is_lt (ordering_then (value_cmp (Int (pos m)) (Int (pos n))) Equal) ≡ is_lt (nat_cmp m n)
version_order m n = ap is_lt (then-Equal (value_cmp (Int (pos m)) (Int (pos n))) ∙ value_cmp-Int (pos m) (pos n) ∙ int_order m n)

not_before : (x y : Output) → IsWhole x → IsWhole y → is_lt (output_cmp rows_query y x) ≡ false → is_lt (by_version (entry_shown y) (entry_shown x)) ≡ false
not_before x y a b up =
    let same : output_cmp rows_query y x ≡ ordering_then (value_cmp (Int (pos (entry_shown y).version)) (Int (pos (entry_shown x).version))) Equal =
    λ i. ordering_then (value_cmp (column (b.0 i) 0) (column (a.0 i) 0)) Equal in
    sym (ap is_lt same ∙ version_order (entry_shown y).version (entry_shown x).version) ∙ up

steps : (os : List Output) → AllByRecursion IsWhole os → ((k : ℕ) (o : Output) → suc k < length os → is_lt (output_cmp rows_query (get_or os (suc k) o) (get_or os k o)) ≡ false)
    → (k : ℕ) (d : Entry) → suc k < length (map entry_shown os) → is_lt (by_version (get_or (map entry_shown os) (suc k) d) (get_or (map entry_shown os) k d)) ≡ false
steps [] all up k d low = absurd (omega arith)
steps (x ∷ []) all up k d low = absurd (omega arith)
steps (x ∷ y ∷ os) all up zero d low = not_before x y all.0 all.1.0 (up zero x (omega arith))
steps (x ∷ y ∷ os) all up (suc k) d low = steps (y ∷ os) all.1 (λ j o l. up (suc j) o (omega (arith, l))) k d (omega (arith, low))

in_order_of_versions : (os : List Output) → AllByRecursion IsWhole os → IsSorted (output_cmp rows_query) os → IsSorted by_version (map entry_shown os)
in_order_of_versions os all sorted k d low high =
    subst (λ (n : ℕ). is_lt (by_version (get_or (map entry_shown os) n d) (get_or (map entry_shown os) k d)) ≡ false) (sym (add-one k))
    (steps os all (λ j o l. subst (λ (n : ℕ). is_lt (output_cmp rows_query (get_or os n o) (get_or os j o)) ≡ false) (add-one j) (sorted j o (omega arith) (omega (arith, l)))) k d (omega (arith, high)))

-- the answer has the rows of the table's entries, in their order
pub rows_whole : (old new : State) (rows : List Row) → old.now.schema ≡ log_schema → Shown rows_text [] old new rows → (t : Table) → AreRowsOf t (old.now.trees 1)
    → map (drop 1) rows ≡ map cells_of t.entries
rows_whole old new rows has h t are =
    let read = reads_as rows_text [] old new log_schema has _ rows_is.0 rows_plain rows_is.1 rows h in
    let a : IsAnswer rows_query (overlay old.now.trees []) [] rows = read.answer Null in
    let kept : a.kept ≡ outputs (old.now.trees 1) = a.distinct ∙ ap (map (output rows_query)) a.grouped in
    let each = whole_each (old.now.trees 1) (all-permutation _ (map cells_of t.entries) (map cells (old.now.trees 1)) (IsPermutation-sym _ _ are.same) (backs t.entries)) in
    let all = all-permutation IsWhole a.kept a.ordered a.same (subst (AllByRecursion IsWhole) (sym kept) each) in
    let shown : map entry_shown a.kept ≡ map (λ (row : Row). entry_by (cells row)) (old.now.trees 1) = ap (map entry_shown) kept ∙ entries_shown (old.now.trees 1) in
    let moved : IsPermutation t.entries (map entry_shown a.ordered) =
    IsPermutation-trans _ _ _ (entries_of (old.now.trees 1) t are) (subst (λ (es : List Entry). IsPermutation es (map entry_shown a.ordered)) shown (IsPermutation-map entry_shown a.kept a.ordered a.same)) in
    let same = versions_sorted_back 0 t.entries (map entry_shown a.ordered) are.plain.run.ascending moved (in_order_of_versions a.ordered all a.sorted) in
    ap (map (drop 1)) a.shown ∙ cells_shown a.ordered all ∙ ap (map cells_of) same

numbered_each : (rows : List Row) → AreNumbered rows → AreNumbered (map numbered_cells rows)
numbered_each [] all = tt
numbered_each (r ∷ rows) all = (all.0, numbered_each rows all.1)

pub numbered_whole : (rows shown : List Row) → AreNumbered rows → IsPermutation (map numbered_cells rows) shown → AreNumbered shown
numbered_whole rows shown all same = all-permutation _ (map numbered_cells rows) shown same (numbered_each rows all)

pub apart_whole : (rows shown : List Row) → AreNumberedApart rows → IsPermutation (map numbered_cells rows) shown → AreNumberedApart shown
apart_whole rows shown once same n = omega (arith, once n, counted_alike n rows shown same)

-- ---- the next entry of a table fits behind those before it

pub ahead : (last : ℕ) (front : List Entry) (e : Entry) (rest : List Entry) → are_ascending last (front ++ e ∷ rest) ≡ true → last_version last front < e.version
ahead last [] e rest up = ltb-true last e.version (and_parts _ _ up).0
ahead last (x ∷ front) e rest up = ahead x.version front e rest (and_parts _ _ up).1

pub apart : (front : List Entry) (e : Entry) (rest : List Entry) → are_distinct (front ++ e ∷ rest) ≡ true → has_key e.key front ≡ false
apart [] e rest distinct = refl
apart (x ∷ front) e rest distinct =
    grind (arith, apart front e rest, list_any-append (λ (y : Entry). pointwise nat_eq y.key x.key) front (e ∷ rest), nat_list_eq_equiv.symm e.key x.key)

pub room : (front : List Entry) (e : Entry) (rest : List Entry) → length (front ++ e ∷ rest) ≤ KEYS_MOST → length front < KEYS_MOST
room front e rest most = omega (arith, length-append front (e ∷ rest))

-- the row that comes next holds the entry that comes next
pub record IsNext (row : Row) (front all : List Entry) : Type 0 where
  pub entry : Entry
  pub rest : List Entry
  pub is : all ≡ front ++ entry ∷ rest
  pub cells_are : drop 1 row ≡ cells_of entry
  pub kept : is_kept entry ≡ true
  pub numbered : is_int (rowid row) ≡ true

same_cells : (x y : Entry) → cells_of x ≡ cells_of y → x ≡ y
same_cells x y same = sym (entry_back x) ∙ ap entry_by same ∙ entry_back y

pub next_of_rows : (rows : List Row) (at : ℕ) (d : Row) (front all : List Entry) → at < length rows → map cells_of front ≡ map (drop 1) (take at rows) → map (drop 1) rows ≡ map cells_of all
    → list_all is_kept all ≡ true → AreNumbered rows → IsNext (get_or rows at d) front all
next_of_rows [] at d front all low begun is kept numbered = absurd (omega arith)
next_of_rows (r ∷ rows) at d front [] low begun is kept numbered = absurd (cc)
next_of_rows (r ∷ rows) zero d (x ∷ front) (e ∷ all) low begun is kept numbered = absurd (cc)
next_of_rows (r ∷ rows) zero d [] (e ∷ all) low begun is kept numbered =
    record { entry = e; rest = all; is = refl; cells_are = cc; kept = (and_parts _ _ kept).0; numbered = numbered.0 }
next_of_rows (r ∷ rows) (suc at) d [] (e ∷ all) low begun is kept numbered = absurd (cc)
next_of_rows (r ∷ rows) (suc at) d (x ∷ front) (e ∷ all) low begun is kept numbered =
    let first : cells_of x ≡ drop 1 r = cc in
    let other : drop 1 r ≡ cells_of e = cc in
    let later = next_of_rows rows at d front all (omega arith) (cc) (cc) (and_parts _ _ kept).1 numbered.1 in
    record { entry = later.entry; rest = later.rest; is = λ i. same_cells e x (sym (first ∙ other)) i ∷ later.is i; cells_are = later.cells_are; kept = later.kept; numbered = later.numbered }

abbrev Fits : Table → Entry → Type 0
Fits now e = (now.held < e.version) × (has_key e.key now.entries ≡ false) × (length now.entries < KEYS_MOST)

-- so it can be entered
pub next_fits : (now t : Table) (row : Row) (e : Entry) → IsPlainTable now → IsPlainTable t → IsNext row now.entries t.entries → cells_of e ≡ drop 1 row → Fits now e
next_fits now t row e plain whole next is =
    let up = subst (λ (es : List Entry). are_ascending 0 es ≡ true) next.is whole.run.ascending in
    let distinct = subst (λ (es : List Entry). are_distinct es ≡ true) next.is whole.run.distinct in
    let limit = subst (λ (es : List Entry). length es ≤ KEYS_MOST) next.is whole.limit in
    subst (Fits now) (same_cells next.entry e (sym (is ∙ next.cells_are))) (
      subst (λ (n : ℕ). n < next.entry.version) (sym plain.last) (ahead 0 now.entries next.entry next.rest up),
      apart now.entries next.entry next.rest distinct,
      room now.entries next.entry next.rest limit,
    )

pub none_there : (key : List ℕ) (es : List Entry) → has_key key es ≡ false → option_map version_and_slot (entry_at key es) ≡ None
none_there key es none = ap (option_map version_and_slot) (entry_at-none key es none)

pub cells_found : (found : Option Entry) (e : Entry) (row : Row) → IfSome found (λ x. (cells_of x ≡ drop 1 row) × (is_kept x ≡ true)) → found ≡ Some e → cells_of e ≡ drop 1 row
cells_found None e row all is = absurd (cc)
cells_found (Some x) e row all is = let same : x ≡ e = cc in subst (λ (y : Entry). cells_of y ≡ drop 1 row) same all.0

pub not_damaged : (result : Result Table Fault) → IfErr result (λ fault. fault ≡ NoMemory) → result ≡ Err LogDamaged → ⊥
not_damaged (Ok t) none is = cc
not_damaged (Err fault) none is = cc
