-- What the statement that takes out removals does.
use Rattle.std.proofs.Common.{◌≡◌, ◌≤◌, inl, inr, ⊎_elim, ℕ, ℤ, pos, Bool, true, false, cond, not, ◌&&◌, ◌||◌, true≢false, List, [], ◌∷◌, ◌++◌, length, map, filter, flat_map, Option, None, Some, Ok, refl, sym, ap, subst, subst₂, ◌∙◌, arith, int_cmp, is_eq, nat_lt, ◌==◌, IsPermutation}
use Rattle.std.specs.List.{AllByRecursion, list_any, list_all}
use Rattle.std.specs.Ordering.{is_le}
use Rattle.std.proofs.lemmas.Bool.{and_parts, and_from, or_parts, cases_Bool}
use Rattle.std.proofs.lemmas.Bool.Decides.{nat_tests}
use Rattle.std.proofs.lemmas.Int.{ints}
use Rattle.std.proofs.lemmas.List.Elements.{All-from_recursion, recursion_from_All}
use Rattle.std.proofs.lemmas.List.Sorted.{IsPermutation-map, IsPermutation-sym, All-permutation}
use Rattle.sqlite_value.specs.declared.value.Value.{Value}
use Rattle.sqlite_value.specs.declared.value.Value.TheVariants.{Null, Int}
use Rattle.sqlite_value.specs.declared.keys.Collation.TheVariants.{Binary}
use Rattle.sqlite_value.specs.Order.{Row, column, value_cmp}
use Rattle.sqlite_value.proofs.OrderLemmas.{value_cmp-Int}
use Rattle.sqlite_trees.specs.Tree.{Trees, rowid, has_rowid, without_rowid}
use Rattle.sqlite_trees.proofs.ListLemmas.{filter-map, IsPermutation-filter, all-filter}
use Rattle.sqlite_sql.specs.declared.ops.BinaryOp.TheVariants.{Compare}
use Rattle.sqlite_sql.specs.declared.ops.CompareOp.TheVariants.{Eq, Le}
use Rattle.sqlite_sql.specs.Ops.{binary, from_truth, is_true}
use Rattle.sqlite_sql.specs.Term.{holds}
use Rattle.sqlite_sql.specs.Query.{IsAnswer, Output, output}
use Rattle.sqlite_sql.specs.Program.{overlay}
use Rattle.sqlite_schema.specs.declared.command.Command.{Command}
use Rattle.sqlite_schema.specs.declared.command.Command.TheVariants.{Delete}
use Rattle.sqlite_schema.specs.declared.schema.Schema.{Schema}
use Rattle.sqlite_rules.specs.declared.error.Rowids.TheVariants.{Given}
use Rattle.sqlite_rules.specs.Calls.{ids_of}
use Rattle.sqlite_rules.specs.Edit.{id_in, edit_of, without_all}
use Rattle.sqlite_rules.specs.Lists.{Has}
use Rattle.sqlite_rules.proofs.ListLemmas.{all_has, has_kept, has_filtered}
use Rattle.sqlite_rules.proofs.TableLemmas.{int_is}
use Rattle.sqlite_catalog.specs.Listing.{IsSound}
use Rattle.sqlite.specs.declared.run.Mode.{Mode}
use Rattle.sqlite.specs.Does.{Tally, Does}
use Rattle.sqlite.specs.Effect.{Database}
use Rattle.sqlite.specs.Rows.{Written}
use Rattle.sqlite.specs.Listing.{understood}
use Rattle.sqlite.specs.State.{State, Writes, Executes, MayCommit, CommitsBy, mode_of}
use Rattle.sqlite.proofs.Callers.{IsPlain, command_of, statement_of, runs_as, one_step}
use Rattle.sb_types.specs.declared.entry.Slot.{Slot}
use Rattle.sb_types.specs.declared.entry.Slot.TheVariants.{Set, Removed}
use Rattle.sb_types.specs.declared.kind.Kind.{Kind}
use Rattle.sb_types.specs.declared.format.TheConstants.{TAG_REMOVED}
use Rattle.sb_types.specs.Kinds.{tag_of, kind_of}
use Rattle.sb_types.proofs.KindTable.{tag_not_removed}
use Rattle.sb_types.specs.Records.{Entry, Table}
use Rattle.sb_types.specs.Runs.{is_set, live_entries}
use Rattle.sb_table.proofs.Order.{run_kept}
use Rattle.sb_table.proofs.Merging.{length-filter_le, plain-run}
use Rattle.sb_log.specs.Form.{log_schema, writes_table, drop_text}
use Rattle.sb_log.specs.Rows.{AreNumbered, AreNumberedApart, AreRowsOf, Drops, cells, cells_of, is_kept, slot_cells}
use Rattle.sb_log.specs.Standing.{IsReady}
use Rattle.sb_log.proofs.Making.{went, same_value, commits}
use Rattle.sb_log.proofs.Texts.{drop_query, drop_program, drop_is, drop_plain}
use Rattle.sb_log.proofs.Updating.{int_same, rowid_is, only_one}

apart : ◌≡◌ {A = ℕ} 0 1 → ⊥
apart e = absurd (omega (arith, e))

abbrev number : Row → ℤ
number r = id_in (rowid r)

abbrev hit : List ℤ → Row → Bool
hit ids r = list_any (λ id. has_rowid id r) ids

has_own : (n : ℤ) (r : Row) → rowid r ≡ Int n → has_rowid n r ≡ true
has_own n r id = ap (λ (w : Value). is_eq (value_cmp w (Int n))) id ∙ ap is_eq (value_cmp-Int n n) ∙ int_same n

-- a rowid tells the row
one_row : (rows : List Row) (n : ℤ) → AreNumberedApart rows → (x y : Row) → Has rows x → Has rows y → rowid x ≡ Int n → rowid y ≡ Int n → x ≡ y
one_row rows n apart x y first second one other =
    let a = only_one (filter (has_rowid n) rows) x (apart n) (has_kept (has_rowid n) rows x first (has_own n x one)) in
    let b = only_one (filter (has_rowid n) rows) y (apart n) (has_kept (has_rowid n) rows y second (has_own n y other)) in
    let same : ◌≡◌ {A = List Row} (x ∷ []) (y ∷ []) = sym a ∙ b in cc

none_hit : (ids : List ℤ) (r : Row) → AllByRecursion (λ id. has_rowid id r ≡ false) ids → hit ids r ≡ false
none_hit [] r all = refl
none_hit (id ∷ ids) r all = ap (λ (b : Bool). b || hit ids r) all.0 ∙ none_hit ids r all.1

all_missed : (ids : List ℤ) (r : Row) → hit ids r ≡ false → AllByRecursion (λ id. has_rowid id r ≡ false) ids
all_missed [] r misses = tt
all_missed (id ∷ ids) r misses = let parts = or_parts (has_rowid id r) (hit ids r) misses in (parts.0, all_missed ids r parts.1)

whole : (rows : List Row) → filter (λ r. true) rows ≡ rows
whole [] = refl
whole (r ∷ rows) = ap (λ (l : List Row). r ∷ l) (whole rows)

both : (p q : Row → Bool) (rows : List Row) → filter (λ r. not (p r)) (filter (λ r. not (q r)) rows) ≡ filter (λ r. not (q r || p r)) rows
both p q [] = refl
both p q (r ∷ rows) = grind (arith, both p q rows)

left_is : (ids : List ℤ) (rows : List Row) → without_all rows ids ≡ filter (λ r. not (hit ids r)) rows
left_is [] rows = sym (whole rows)
left_is (id ∷ ids) rows = left_is ids (without_rowid id rows) ∙ both (hit ids) (has_rowid id) rows

same_kept : (p q : Row → Bool) (rows : List Row) → ((r : Row) → Has rows r → p r ≡ q r) → filter p rows ≡ filter q rows
same_kept p q [] each = refl
same_kept p q (r ∷ rows) each =
    let here = each r (inl refl) in
    let rest = same_kept p q rows (λ x h. each x (inr h)) in
    grind arith

all_numbers : (P : ℤ → Type 0) (rows : List Row) → ((x : Row) → Has rows x → P (number x)) → AllByRecursion P (map number rows)
all_numbers P [] each = tt
all_numbers P (r ∷ rows) each = (each r (inl refl), all_numbers P rows (λ x h. each x (inr h)))

one_number : (P : ℤ → Type 0) (rows : List Row) (x : Row) → AllByRecursion P (map number rows) → Has rows x → P (number x)
one_number P [] x all h = absurd h
one_number P (r ∷ rows) x all (inl same) = subst (λ (y : Row). P (number y)) (sym same) all.0
one_number P (r ∷ rows) x all (inr later) = one_number P rows x all.1 later

module _ (v : Value) where
  abbrev env : Row → List Row
  env r = (v ∷ []) ∷ r ∷ []

  -- a removal up to the version
  abbrev met : Row → Bool
  met r = list_all (holds (env r)) drop_query.filter

  abbrev tested : List Row → List (List Row)
  tested rows = flat_map (λ (r : Row). cond (met r) (env r ∷ []) []) rows

  matched : (rows : List Row) → tested rows ≡ map env (filter met rows)
  matched [] = refl
  matched (r ∷ rows) = go (met r) (matched rows)
    where
      go : (x : Bool) → tested rows ≡ map env (filter met rows) → (cond x (env r ∷ []) [] ++ tested rows) ≡ map env (cond x (r ∷ filter met rows) (filter met rows))
      go true later = ap (λ (l : List (List Row)). env r ∷ l) later
      go false later = later

  outs : (rows : List Row) → map (λ (o : Output). o.1) (map (output drop_query) (map env rows)) ≡ map (λ (r : Row). column r 0 ∷ []) rows
  outs [] = refl
  outs (r ∷ rows) = ap (λ (l : List Row). (column r 0 ∷ []) ∷ l) (outs rows)

  found_are : (db : Trees) (found : List Row) → IsAnswer drop_query (overlay db []) (v ∷ []) found → IsPermutation (map (λ (r : Row). column r 0 ∷ []) (filter met (db 1))) found
  found_are db found answer =
      let staged = answer.grouped ∙ matched (db 1) in
      let shown : map (λ (o : Output). o.1) answer.kept ≡ map (λ (r : Row). column r 0 ∷ []) (filter met (db 1)) =
      ap (map (λ (o : Output). o.1)) (answer.distinct ∙ ap (map (output drop_query)) staged) ∙ outs (filter met (db 1)) in
      subst₂ IsPermutation shown (sym answer.shown) (IsPermutation-map (λ (o : Output). o.1) answer.kept answer.ordered answer.same)

  numbers : (rows : List Row) → map number (map (λ (r : Row). column r 0 ∷ []) rows) ≡ map number rows
  numbers [] = refl
  numbers (r ∷ rows) = ap (λ (l : List ℤ). number r ∷ l) (numbers rows)

  ids_are : (db : Trees) (found : List Row) → IsAnswer drop_query (overlay db []) (v ∷ []) found → IsPermutation (map number (filter met (db 1))) (ids_of found)
  ids_are db found answer =
      subst (λ (l : List ℤ). IsPermutation l (ids_of found)) (numbers (filter met (db 1)))
      (IsPermutation-map number (map (λ (r : Row). column r 0 ∷ []) (filter met (db 1))) found (found_are db found answer))

  module _ (rows : List Row) (ids : List ℤ) (numbered : AreNumbered rows) (once : AreNumberedApart rows) (same : IsPermutation (map number (filter met rows)) ids) where
    int : (r : Row) → Has rows r → rowid r ≡ Int (number r)
    int r here = int_is (rowid r) (all_has _ rows r numbered here)

    missed : (r : Row) → Has rows r → met r ≡ false → hit ids r ≡ false
    missed r here unmet =
        let each = all_numbers (λ id. has_rowid id r ≡ false) (filter met rows) (λ x h.
        let kept = has_filtered met rows x h in
        ⊎_elim
        (λ hits.
        let equal : rowid r ≡ Int (number x) = rowid_is r (number x) (all_has _ rows r numbered here) hits in
        let alike : met r ≡ met x = ap met (one_row rows (number x) once r x here kept.0 equal (int x kept.0)) in
        absurd (true≢false (sym kept.1 ∙ sym alike ∙ unmet)))
        (λ misses. misses)
        (cases_Bool (has_rowid (number x) r))) in
        none_hit ids r (recursion_from_All (λ id. has_rowid id r ≡ false) ids (All-permutation (λ id. has_rowid id r ≡ false) (map number (filter met rows)) ids same (All-from_recursion (λ id. has_rowid id r ≡ false) (map number (filter met rows)) each)))

    meets : (r : Row) → Has rows r → met r ≡ true → hit ids r ≡ true
    meets r here is_met =
        ⊎_elim (λ hits. hits)
        (λ misses.
        let each = recursion_from_All (λ id. has_rowid id r ≡ false) (map number (filter met rows)) (All-permutation (λ id. has_rowid id r ≡ false) ids (map number (filter met rows)) (IsPermutation-sym _ _ same) (All-from_recursion (λ id. has_rowid id r ≡ false) ids (all_missed ids r misses))) in
        let off : has_rowid (number r) r ≡ false = one_number (λ id. has_rowid id r ≡ false) (filter met rows) r each (has_kept met rows r here is_met) in
        absurd (true≢false (sym (has_own (number r) r (int r here)) ∙ off)))
        (cases_Bool (hit ids r))

    agree : (r : Row) → Has rows r → not (hit ids r) ≡ not (met r)
    agree r here = ⊎_elim (λ is_met. ap not (meets r here is_met ∙ sym is_met)) (λ unmet. ap not (missed r here unmet ∙ sym unmet)) (cases_Bool (met r))

    kept_are : without_all rows ids ≡ filter (λ r. not (met r)) rows
    kept_are = left_is ids rows ∙ same_kept (λ r. not (hit ids r)) (λ r. not (met r)) rows agree

  dropped : (limit : Option ℕ) (mode : Mode) (text : List ℕ) (db : Database) (tally : Tally) (after : Database) → db.schema ≡ log_schema
      → Does limit mode (v ∷ []) db text None (Delete 1 drop_program) (Ok (tally, after))
      → (after.schema ≡ log_schema) × (after.trees 0 ≡ db.trees 0) × (AreNumbered (db.trees 1) → AreNumberedApart (db.trees 1) → after.trees 1 ≡ filter (λ r. not (met r)) (db.trees 1))
  dropped limit mode text db tally after has h =
      let done = went (subst (λ (s : Schema). Does limit mode (v ∷ []) (record db { schema = s }) text None (Delete 1 drop_program) (Ok (tally, after))) has h) in
      let now = ap (λ (p : Tally × Database). p.1) (same_value (went (went done.2).2).2) in
      let first = went done.1 in
      let second = went first.2 in
      let trees : done.0.trees ≡ second.0 = ap (λ (it : Written). it.trees) (same_value second.2) in
      let put = one_step log_schema mode.keys db.trees second.0 (edit_of db.trees writes_table (ids_of first.0) Given 0 []) refl second.1 in
      let at : (t : ℕ) → after.trees t ≡ second.0 t = λ t. ap (λ (d : Database). d.trees t) now ∙ ap (λ (all : Trees). all t) trees in (
        ap (λ (d : Database). d.schema) now,
        at 0 ∙ put.tables.0 apart,
        λ numbered once. at 1 ∙ put.rows ∙ kept_are (db.trees 1) (ids_of first.0) numbered once (ids_are db.trees first.0 (first.1.answer Null)),
      )

-- ---- of the rows of a table's entries those stay that live

abbrev kept_cells : ℕ → Row → Bool
kept_cells floor c = not (list_all (holds ((Int (pos floor) ∷ []) ∷ (Null ∷ c) ∷ [])) drop_query.filter)

shown_truth : (b : Bool) → is_true (from_truth (Some b)) ≡ b
shown_truth true = refl
shown_truth false = refl

marker_kept : (floor version : ℕ) → is_true (binary (Compare Le Binary) (Int (pos version)) (Int (pos floor))) ≡ is_le (value_cmp (Int (pos version)) (Int (pos floor)))
unfolding binary
marker_kept floor version = shown_truth (is_le (value_cmp (Int (pos version)) (Int (pos floor))))

above_floor : (floor version : ℕ) → not (is_le (int_cmp (pos version) (pos floor))) ≡ nat_lt floor version
above_floor floor version = grind (arith, ints, nat_tests)

not_both : (x : Bool) → not (true && (x && true)) ≡ not x
not_both true = refl
not_both false = refl

abbrev below : ℕ → ℕ → Bool
below floor version = is_true (binary (Compare Le Binary) (Int (pos version)) (Int (pos floor)))

abbrev tested_slot : ℕ → ℕ → Slot → Bool
tested_slot floor version slot = not (is_true (binary (Compare Eq Binary) (column (slot_cells slot) 0) (Int (pos 0))) && (below floor version && true))

tag_is : (n : ℕ) → is_true (binary (Compare Eq Binary) (Int (pos n)) (Int (pos 0))) ≡ is_eq (int_cmp (pos n) (pos 0))
unfolding binary
tag_is n = shown_truth (is_eq (value_cmp (Int (pos n)) (Int (pos 0)))) ∙ ap is_eq (value_cmp-Int (pos n) (pos 0))

-- by the table no kind has the tag of a removal
no_removal : (kind : Kind) → is_eq (int_cmp (pos (tag_of kind)) (pos 0)) ≡ false
no_removal kind = let other : (tag_of kind == TAG_REMOVED) ≡ false = tag_not_removed kind in grind (arith, ints, nat_tests)

kept_slot : (floor version : ℕ) (slot : Slot) → tested_slot floor version slot ≡ (is_set slot || nat_lt floor version)
kept_slot floor version (Set value) = ap (λ (b : Bool). not (b && (below floor version && true))) (tag_is (tag_of (kind_of value)) ∙ no_removal (kind_of value))
kept_slot floor version Removed =
    ap (λ (b : Bool). not (b && (below floor version && true))) (tag_is 0) ∙ not_both (below floor version)
    ∙ ap not (marker_kept floor version ∙ ap is_le (value_cmp-Int (pos version) (pos floor))) ∙ above_floor floor version

kept_entry : (floor : ℕ) (e : Entry) → kept_cells floor (cells_of e) ≡ (is_set e.slot || nat_lt floor e.version)
kept_entry floor e = kept_slot floor e.version e.slot

kept_entries : (floor : ℕ) (es : List Entry) → filter (kept_cells floor) (map cells_of es) ≡ map cells_of (live_entries floor es)
kept_entries floor es = filter-map (kept_cells floor) cells_of es ∙ ap (map cells_of) (same_entries floor es)
  where
    same_entries : (floor : ℕ) (es : List Entry) → filter (λ e. kept_cells floor (cells_of e)) es ≡ live_entries floor es
    same_entries floor [] = refl
    same_entries floor (e ∷ es) =
        let here = kept_entry floor e in
        let rest = same_entries floor es in
        (λ i. cond (here i) (e ∷ rest i) (rest i))

live_rows : (floor : ℕ) (t : Table) (old new : List Row) → AreRowsOf t old → new ≡ filter (λ r. not (met (Int (pos floor)) r)) old → IsPermutation (map cells new) (map cells_of (live_entries floor t.entries))
live_rows floor t old new are is =
    let kept : filter (kept_cells floor) (map cells old) ≡ map cells new = filter-map (kept_cells floor) cells old ∙ ap (map cells) (sym is) in
    subst₂ IsPermutation kept (kept_entries floor t.entries) (IsPermutation-filter (kept_cells floor) (map cells old) (map cells_of t.entries) are.same)

-- ---- and are rows of a table

all_kept : (p q : Entry → Bool) (es : List Entry) → list_all q es ≡ true → list_all q (filter p es) ≡ true
all_kept p q [] all = refl
all_kept p q (e ∷ es) all =
    let parts = and_parts _ _ all in
    let rest = all_kept p q es parts.1 in
    elim (p e) as (λ b. list_all q (cond b (e ∷ filter p es) (filter p es)) ≡ true) [ true ↦ and_from _ _ parts.0 rest | false ↦ rest ]

fewer : (p q : Row → Bool) (rows : List Row) → length (filter q (filter p rows)) ≤ length (filter q rows)
fewer p q [] = omega arith
fewer p q (r ∷ rows) = grind (arith, fewer p q rows)

still_apart : (p : Row → Bool) (rows : List Row) → AreNumberedApart rows → AreNumberedApart (filter p rows)
still_apart p rows once n = omega (arith, once n, fewer p (has_rowid n) rows)

module _ (floor : ℕ) where
  abbrev lives : Entry → Bool
  lives e = is_set e.slot || nat_lt floor e.version

  abbrev stays : Row → Bool
  stays r = not (met (Int (pos floor)) r)

  left : (old new : List Row) → (AreNumbered old → AreNumberedApart old → new ≡ filter stays old) → Drops floor old new
  left old new are_left t are =
      let is = are_left are.numbered are.apart in
      record {
        plain = plain-run (run_kept lives are.plain.run) (omega (arith, are.plain.limit, length-filter_le lives t.entries));
        kept = all_kept lives is_kept t.entries are.kept;
        same = live_rows floor t old new are is;
        numbered = subst AreNumbered (sym is) (all-filter _ stays old are.numbered);
        apart = subst AreNumberedApart (sym is) (still_apart stays old are.apart);
      }

  -- ---- the statement

  abbrev delete : Command
  delete = Delete 1 drop_program

  abbrev text_run : List ℕ
  text_run = statement_of drop_text (understood log_schema drop_text)

  abbrev pub params : Row
  params = Int (pos floor) ∷ []

  module _ (old : State) (ready : IsReady old) where
    does : (limit : Option ℕ) (mode : Mode) (tally : Tally) (after : Database) → Does limit mode params old.now text_run None delete (Ok (tally, after))
        → (after.schema ≡ log_schema) × Drops floor (old.now.trees 1) (after.trees 1) × (after.trees 0 ≡ old.now.trees 0)
    does limit mode tally after h =
        let did = dropped (Int (pos floor)) limit mode text_run old.now tally after ready.schema h in
        (did.0, left (old.now.trees 1) (after.trees 1) did.2, did.1)

    module _ (new : State) (count : ℕ) (h : Executes drop_text params old new (Ok count)) where
      ran : Writes old new None delete text_run params count
      ran = runs_as drop_text params old new log_schema ready.schema delete drop_is drop_plain count h

      did : (new.now.schema ≡ log_schema) × Drops floor (old.now.trees 1) (new.now.trees 1) × (new.now.trees 0 ≡ old.now.trees 0)
      did = does old.step_limit (mode_of old) ran.tally new.now ran.changed

      pub drop_ready : IsReady new
      drop_ready =
          let done = commits old new delete text_run params count ran ready.autocommit in
          record { is_open = done.2; autocommit = done.0; settled = done.1; schema = did.0; sound = ran.sound }

      pub drop_rows : Drops floor (old.now.trees 1) (new.now.trees 1)
      drop_rows = did.1

      pub drop_spares : new.now.trees 0 ≡ old.now.trees 0
      drop_spares = did.2

    -- what a crash leaves of it
    abbrev pub DroppedIn : Trees → Type 0
    DroppedIn db = IsSound log_schema db × Drops floor (old.now.trees 1) (db 1) × (db 0 ≡ old.now.trees 0)

    may_drop : (db : Trees) → MayCommit old None delete text_run params db → DroppedIn db
    may_drop db (inl ends) = absurd (elim ends.0 [ inl commits ↦ cc | inr releases ↦ let is = releases.2 in cc ])
    may_drop db (inr writes) =
        let did = does old.step_limit (mode_of old) writes.1 writes.2 writes.3 in
        subst DroppedIn (sym writes.5) (subst (λ (s : Schema). IsSound s writes.2.trees) did.0 writes.4, did.1, did.2)

    pub drops_in : (db : Trees) → CommitsBy drop_text params old db → DroppedIn db
    unfolding CommitsBy
    drops_in db h =
        let known = sym h.1.is ∙ ap (λ (s : Schema). understood s drop_text) ready.schema in
        let bare = subst IsPlain (sym known) drop_plain in
        may_drop db (subst₂ (λ (k : Command) (t : List ℕ). MayCommit old None k t params db) (ap command_of known ∙ drop_is) (ap (statement_of drop_text) known) (rw (bare.0, bare.1) at h.2))
