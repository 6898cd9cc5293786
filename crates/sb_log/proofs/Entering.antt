-- From the upsert of an entry's row to the table with the entry.
use Rattle.std.proofs.Common.{◌≡◌, inl, inr, ℕ, ℤ, ◌≤◌, Bool, true, false, cond, not, ◌&&◌, ◌||◌, true≢false, List, [], ◌∷◌, ◌++◌, length, map, filter, Some, refl, sym, ap, subst, ◌∙◌, arith, nat_eq, is_eq, Ordering, Less, Equal, Greater, IsPermutation}
use Rattle.std.specs.List.{AllByRecursion, list_all, list_any}
use Rattle.std.specs.Ordering.{match_ordering}
use Rattle.std.specs.Cmp.Lexicographic.{pointwise, texts_ties}
use Rattle.std.proofs.lemmas.Bool.{and_parts, and_from, or_parts, not-true}
use Rattle.std.proofs.lemmas.Cmp.{nat_list_eq_equiv}
use Rattle.std.proofs.lemmas.List.{map-append}
use Rattle.std.proofs.lemmas.List.Sorted.{IsPermutation-refl, IsPermutation-cons, IsPermutation-middle, IsPermutation-sym, IsPermutation-map, IsPermutation-trans, IsPermutation-to_front, length_permutation}
use Rattle.std.proofs.lemmas.Slice.Eq.{bytes_eq-Decides}
use Rattle.sqlite_value.specs.declared.value.Value.{Value}
use Rattle.sqlite_value.specs.declared.value.Value.TheVariants.{Text}
use Rattle.sqlite_value.specs.declared.keys.Collation.TheVariants.{Binary}
use Rattle.sqlite_value.specs.Keys.{first_key}
use Rattle.sqlite_value.specs.Order.{Row, column, bytes, value_cmp}
use Rattle.sqlite_value.proofs.OrderLemmas.{value_cmp-Text}
use Rattle.sqlite_trees.specs.Tree.{rowid, has_rowid, put_row}
use Rattle.sqlite_trees.specs.View.{is_int}
use Rattle.sqlite_trees.proofs.ListLemmas.{IsPermutation-filter, IsPermutation-same, all-permutation}
use Rattle.sqlite_sql.specs.Ops.{binary, from_truth, is_true}
use Rattle.sqlite_schema.specs.Rules.{equal}
use Rattle.sqlite_rules.specs.Lists.{Has}
use Rattle.sqlite_rules.specs.Keys.{conflicts}
use Rattle.sqlite_rules.specs.Edit.{is_taken}
use Rattle.sb_types.specs.Records.{Entry, Table}
use Rattle.sb_types.specs.Runs.{are_distinct, has_key, entries_without_keys}
use Rattle.sb_table.specs.Plain.{IsPlainTable, with_entry}
use Rattle.sb_log.specs.Form.{log_schema, writes_table}
use Rattle.sb_log.specs.Rows.{cells, cells_of, is_kept, AreNumbered, AreNumberedApart, AreRowsOf}
use Rattle.sb_log.proofs.Updating.{rowid_is}

-- a row whose rowid is free goes in beside the others
pub put_fresh : (new : Row) (rows : List Row) → is_taken rows new ≡ false → IsPermutation (new ∷ rows) (put_row new rows)
put_fresh new [] free = IsPermutation-refl (new ∷ [])
put_fresh new (r ∷ rows) free = go (value_cmp (rowid r) (rowid new)) (or_parts _ _ free).0 (put_fresh new rows (or_parts _ _ free).1)
  where
    go : (o : Ordering) → is_eq o ≡ false → IsPermutation (new ∷ rows) (put_row new rows) → IsPermutation (new ∷ r ∷ rows) (match_ordering o (r ∷ put_row new rows) (new ∷ rows) (new ∷ r ∷ rows))
    go Less other later = IsPermutation-trans _ _ _ (IsPermutation-middle (new ∷ []) r rows) (IsPermutation-cons r (new ∷ rows) (put_row new rows) later)
    go Equal other later = absurd (true≢false other)
    go Greater other later = IsPermutation-refl (new ∷ r ∷ rows)

-- ---- no rowid stands twice

pub none_filtered : (p : Row → Bool) (rows : List Row) → list_any p rows ≡ false → length (filter p rows) ≡ 0
none_filtered p [] none = refl
none_filtered p (r ∷ rows) none =
    let parts = or_parts (p r) (list_any p rows) none in
    subst (λ (b : Bool). length (cond b (r ∷ filter p rows) (filter p rows)) ≡ 0) (sym parts.0) (none_filtered p rows parts.1)

one_more : (n : ℤ) (new : Row) (left : List Row) → is_int (rowid new) ≡ true → is_taken left new ≡ false → length (filter (has_rowid n) left) ≤ 1 → length (filter (has_rowid n) (new ∷ left)) ≤ 1
one_more n new left int free few = go (has_rowid n new) refl
  where
    go : (b : Bool) → has_rowid n new ≡ b → length (cond b (new ∷ filter (has_rowid n) left) (filter (has_rowid n) left)) ≤ 1
    go true has =
        let none : list_any (has_rowid n) left ≡ false = subst (λ (v : Value). list_any (λ r. is_eq (value_cmp (rowid r) v)) left ≡ false) (rowid_is new n int has) free in
        omega (arith, none_filtered (has_rowid n) left none)
    go false has = few

-- of those that are left
left_apart : (rows left : List Row) (r : Row) → IsPermutation rows (r ∷ left) → AreNumberedApart rows → AreNumberedApart left
left_apart rows left r split once n = omega (arith, once n, length_permutation _ _ (IsPermutation-filter (has_rowid n) rows (r ∷ left) split), less)
  where
    less : length (filter (has_rowid n) left) ≤ length (filter (has_rowid n) (r ∷ left))
    less = elim (has_rowid n r) as (λ b. length (filter (has_rowid n) left) ≤ length (cond b (r ∷ filter (has_rowid n) left) (filter (has_rowid n) left))) [ true ↦ omega arith | false ↦ omega arith ]

shown_truth : (b : Bool) → is_true (from_truth (Some b)) ≡ b
shown_truth true = refl
shown_truth false = refl

same_text : (s t : List ℕ) → equal Binary (Text s) (Text t) ≡ is_eq (value_cmp (Text s) (Text t))
unfolding binary
same_text s t = shown_truth (is_eq (value_cmp (Text s) (Text t)))

alone : (x : Bool) → ((x && true) || false) ≡ x
alone true = refl
alone false = refl

or_none : (x : Bool) → (x || false) ≡ x
or_none true = refl
or_none false = refl

-- only the key tells a conflict
conflict_is : (new r : Row) → conflicts (Some (1 ∷ [])) log_schema.indexes writes_table new r ≡ equal Binary (column r 1) (column new 1)
unfolding first_key
conflict_is new r = alone (equal Binary (column r 1) (column new 1))

module _ (e : Entry) where
  abbrev matches : Row → Bool
  matches c = pointwise nat_eq e.key (bytes (column c 0)) || false

  abbrev keeps : Row → Bool
  keeps c = not (matches c)

  kept_entries : (es : List Entry) → filter keeps (map cells_of es) ≡ map cells_of (entries_without_keys (e ∷ []) es)
  kept_entries [] = refl
  kept_entries (x ∷ es) = go (keeps (cells_of x)) (kept_entries es)
    where
      go : (b : Bool) → filter keeps (map cells_of es) ≡ map cells_of (entries_without_keys (e ∷ []) es)
          → cond b (cells_of x ∷ filter keeps (map cells_of es)) (filter keeps (map cells_of es)) ≡ map cells_of (cond b (x ∷ entries_without_keys (e ∷ []) es) (entries_without_keys (e ∷ []) es))
      go true later = ap (λ (l : List Row). cells_of x ∷ l) later
      go false later = later

  -- a new row beside those of other keys
  beside : (t : Table) (new : Row) (left rows : List Row) → IsPermutation (map cells rows) (map cells_of t.entries) → cells new ≡ cells_of e
      → IsPermutation (filter keeps (map cells rows)) (map cells left) → IsPermutation (map cells (new ∷ left)) (map cells_of (with_entry t e).entries)
  beside t new left rows same is others =
      let kept : IsPermutation (map cells left) (map cells_of (entries_without_keys (e ∷ []) t.entries)) =
      IsPermutation-trans _ _ _ (IsPermutation-sym _ _ others) (subst (IsPermutation (filter keeps (map cells rows))) (kept_entries t.entries) (IsPermutation-filter keeps _ _ same)) in
      let front : IsPermutation (map cells (new ∷ left)) (cells_of e ∷ map cells_of (entries_without_keys (e ∷ []) t.entries)) =
      subst (λ (c : Row). IsPermutation (c ∷ map cells left) (cells_of e ∷ map cells_of (entries_without_keys (e ∷ []) t.entries))) (sym is) (IsPermutation-cons (cells_of e) _ _ kept) in
      subst (IsPermutation (map cells (new ∷ left))) (sym (map-append cells_of (entries_without_keys (e ∷ []) t.entries) (e ∷ [])))
      (IsPermutation-trans _ _ _ front (IsPermutation-sym _ _ (IsPermutation-to_front (map cells_of (entries_without_keys (e ∷ []) t.entries)) (cells_of e))))

  abbrev HasText : Row → Type 0
  HasText c = (k : List ℕ) × (column c 0 ≡ Text k)

  entries_text : (es : List Entry) → AllByRecursion HasText (map cells_of es)
  entries_text [] = tt
  entries_text (x ∷ es) = ((x.key, refl), entries_text es)

  texts_in : (rows : List Row) → AllByRecursion HasText (map cells rows) → (r : Row) → Has rows r → HasText (cells r)
  texts_in [] all r h = absurd h
  texts_in (x ∷ rows) all r (inl same) = subst (λ (y : Row). HasText (cells y)) (sym same) all.0
  texts_in (x ∷ rows) all r (inr later) = texts_in rows all.1 r later

  rows_text : (t : Table) (rows : List Row) → AreRowsOf t rows → (r : Row) → Has rows r → HasText (cells r)
  rows_text t rows are = texts_in rows (all-permutation HasText (map cells_of t.entries) (map cells rows) (IsPermutation-sym _ _ are.same) (entries_text t.entries))

  matches_is : (new r : Row) → column new 1 ≡ Text e.key → HasText (cells r) → conflicts (Some (1 ∷ [])) log_schema.indexes writes_table new r ≡ matches (cells r)
  matches_is new r key text =
      conflict_is new r ∙ (λ i. equal Binary (text.1 i) (key i)) ∙ same_text text.0 e.key ∙ ap is_eq (value_cmp-Text text.0 e.key)
      ∙ sym (texts_ties text.0 e.key) ∙ nat_list_eq_equiv.symm text.0 e.key ∙ ap (λ (v : Value). pointwise nat_eq e.key (bytes v)) (sym text.1) ∙ sym (or_none _)

  all_keep : (rows : List Row) → ((r : Row) → Has rows r → matches (cells r) ≡ false) → filter keeps (map cells rows) ≡ map cells rows
  all_keep [] none = refl
  all_keep (r ∷ rows) none =
      subst (λ (b : Bool). cond (not b) (cells r ∷ filter keeps (map cells rows)) (filter keeps (map cells rows)) ≡ map cells (r ∷ rows)) (sym (none r (inl refl)))
      (ap (λ (l : List Row). cells r ∷ l) (all_keep rows (λ x h. none x (inr h))))

  none_left : (xs : List Row) → length (filter matches xs) ≡ 0 → filter keeps xs ≡ xs
  none_left [] none = refl
  none_left (x ∷ xs) none = go (matches x) none (none_left xs)
    where
      go : (b : Bool) → length (cond b (x ∷ filter matches xs) (filter matches xs)) ≡ 0 → (length (filter matches xs) ≡ 0 → filter keeps xs ≡ xs) → cond (not b) (x ∷ filter keeps xs) (filter keeps xs) ≡ x ∷ xs
      go true none later = absurd (omega (arith, none))
      go false none later = ap (λ (l : List Row). x ∷ l) (later none)

  none_match : (x : Entry) (es : List Entry) → pointwise nat_eq e.key x.key ≡ true → has_key x.key es ≡ false → length (filter matches (map cells_of es)) ≡ 0
  none_match x [] alike none = refl
  none_match x (y ∷ es) alike none =
      let parts = or_parts (pointwise nat_eq y.key x.key) (has_key x.key es) none in
      let here : matches (cells_of y) ≡ false = ap (λ (b : Bool). b || false) (nat_list_eq_equiv.congr e.key x.key y.key alike ∙ nat_list_eq_equiv.symm x.key y.key ∙ parts.0) in
      subst (λ (b : Bool). length (cond b (cells_of y ∷ filter matches (map cells_of es)) (filter matches (map cells_of es))) ≡ 0) (sym here) (none_match x es alike parts.1)

  one_match : (es : List Entry) → are_distinct es ≡ true → length (filter matches (map cells_of es)) ≤ 1
  one_match [] apart = omega arith
  one_match (x ∷ es) apart = go (pointwise nat_eq e.key x.key) refl (one_match es (and_parts _ _ apart).1)
    where
      go : (b : Bool) → pointwise nat_eq e.key x.key ≡ b → length (filter matches (map cells_of es)) ≤ 1 → length (cond (b || false) (cells_of x ∷ filter matches (map cells_of es)) (filter matches (map cells_of es))) ≤ 1
      go true is later = omega (arith, none_match x es is (not-true _ (and_parts _ _ apart).0))
      go false is later = later

  -- where the row of the key is taken out, those of other keys are left
  others_left : (t : Table) (rows left : List Row) (r : Row) → AreRowsOf t rows → IsPermutation rows (r ∷ left) → matches (cells r) ≡ true → IsPermutation (filter keeps (map cells rows)) (map cells left)
  others_left t rows left r are split has =
      let apart : IsPermutation (map cells rows) (cells r ∷ map cells left) = IsPermutation-map cells rows (r ∷ left) split in
      let many : length (filter matches (cells r ∷ map cells left)) ≤ 1 =
      omega (arith, one_match t.entries are.plain.run.distinct, length_permutation _ _ (IsPermutation-filter matches _ _ apart), length_permutation _ _ (IsPermutation-filter matches _ _ are.same)) in
      let count : length (filter matches (map cells left)) ≡ 0 =
      let more = subst (λ (b : Bool). length (cond b (cells r ∷ filter matches (map cells left)) (filter matches (map cells left))) ≤ 1) has many in omega (arith, more) in
      let kept : filter keeps (cells r ∷ map cells left) ≡ map cells left =
      subst (λ (b : Bool). cond (not b) (cells r ∷ filter keeps (map cells left)) (filter keeps (map cells left)) ≡ map cells left) (sym has) (none_left (map cells left) count) in
      subst (IsPermutation (filter keeps (map cells rows))) kept (IsPermutation-filter keeps _ _ apart)

  filtered_kept : (p : Entry → Bool) (es : List Entry) → list_all is_kept es ≡ true → list_all is_kept (filter p es ++ e ∷ []) ≡ (is_kept e && true)
  filtered_kept p [] all = refl
  filtered_kept p (x ∷ es) all = go (p x) (filtered_kept p es (and_parts _ _ all).1)
    where
      go : (b : Bool) → list_all is_kept (filter p es ++ e ∷ []) ≡ (is_kept e && true) → list_all is_kept (cond b (x ∷ filter p es) (filter p es) ++ e ∷ []) ≡ (is_kept e && true)
      go true later = ap (λ (b : Bool). b && list_all is_kept (filter p es ++ e ∷ [])) (and_parts _ _ all).0 ∙ later
      go false later = later

  module _ (t : Table) (rows : List Row) (are : AreRowsOf t rows) (kept : is_kept e ≡ true) (plain : IsPlainTable (with_entry t e)) (new : Row) (is : cells new ≡ cells_of e) (int : is_int (rowid new) ≡ true) where
    holds : (left : List Row) → AreNumbered left → AreNumberedApart left → IsPermutation (filter keeps (map cells rows)) (map cells left) → is_taken left new ≡ false → AreRowsOf (with_entry t e) (put_row new left)
    holds left numbered once others free =
        let put = put_fresh new left free in
        record {
          plain = plain;
          kept = filtered_kept _ t.entries are.kept ∙ and_from _ _ kept refl;
          same = IsPermutation-trans _ _ _ (IsPermutation-sym _ _ (IsPermutation-map cells (new ∷ left) (put_row new left) put)) (beside t new left rows are.same is others);
          numbered = all-permutation _ (new ∷ left) (put_row new left) put (int, numbered);
          apart = λ n. omega (arith, one_more n new left int free (once n), length_permutation _ _ (IsPermutation-filter (has_rowid n) (new ∷ left) (put_row new left) put));
        }

    abbrev Meets : Row → Bool
    Meets r = conflicts (Some (1 ∷ [])) log_schema.indexes writes_table new r

    key_is : column new 1 ≡ Text e.key
    key_is = ap (λ (c : Row). column c 0) is

    pub enters_new : ((r : Row) → Has rows r → Meets r ≡ true → ⊥) → is_taken rows new ≡ false → AreRowsOf (with_entry t e) (put_row new rows)
    enters_new none free =
        let apart : (r : Row) → Has rows r → matches (cells r) ≡ false = λ r h. go (matches (cells r)) (λ m. none r h (matches_is new r key_is (rows_text t rows are r h) ∙ m)) in
        holds rows are.numbered are.apart (IsPermutation-same _ _ (all_keep rows apart)) free
      where
        go : (b : Bool) → (b ≡ true → ⊥) → b ≡ false
        go true never = absurd (never refl)
        go false never = refl

    pub enters_there : (r : Row) (left : List Row) → Has rows r → Meets r ≡ true → IsPermutation rows (r ∷ left) → is_taken left new ≡ false → AreRowsOf (with_entry t e) (put_row new left)
    enters_there r left here meets split free =
        let has : matches (cells r) ≡ true = sym (matches_is new r key_is (rows_text t rows are r here)) ∙ meets in
        holds left (all-permutation _ rows (r ∷ left) split are.numbered).1 (left_apart rows left r split are.apart) (others_left t rows left r are split has) free

    -- a row that is met has the key
    pub key_there : (r : Row) → Has rows r → Meets r ≡ true → column r 1 ≡ Text e.key
    key_there r here meets =
        let text = rows_text t rows are r here in
        let alike : pointwise nat_eq e.key (bytes (column r 1)) ≡ true = sym (or_none _) ∙ sym (matches_is new r key_is text) ∙ meets in
        let key : e.key ≡ text.0 = (bytes_eq-Decides e.key text.0).0 (ap (λ (v : Value). pointwise nat_eq e.key (bytes v)) (sym text.1) ∙ alike) in
        text.1 ∙ ap Text (sym key)
