-- What the query of a log's rows answers.
use Rattle.std.specs.Prelude.{IfOk, OnOk}
use Rattle.sb_types.specs.declared.fault.Fault.{Fault}
use Rattle.std.proofs.Common.{◌≡◌, ◌⊎◌, inl, inr, ℤ, true, false, Result, Ok, Err, drop, subst, List, [], ◌∷◌, length, map, filter, flat_map, refl, sym, ap, subst₂, ◌∙◌, arith}
use Rattle.std.specs.List.Sorted.{IsPermutation}
use Rattle.std.proofs.lemmas.List.{length-map}
use Rattle.std.proofs.lemmas.List.Sorted.{IsPermutation-map, IsPermutation-sym, length_permutation}
use Rattle.sqlite_value.specs.declared.value.Value.TheVariants.{Null}
use Rattle.sqlite_value.specs.Order.{Row}
use Rattle.sqlite_sql.specs.Query.{IsAnswer, Output, output}
use Rattle.sqlite_sql.specs.Program.{overlay}
use Rattle.sqlite.specs.State.{State, Shown, IsUnchanged, CommitsShowing}
use Rattle.sqlite.specs.Effect.{Database, IsDatabase}
use Rattle.sqlite.specs.Listing.{understood, reads_listing}
use Rattle.sqlite_schema.specs.declared.schema.Schema.{Schema}
use Rattle.sqlite_schema.specs.declared.command.Command.TheVariants.{Select}
use Rattle.sqlite_trees.specs.Tree.{Trees, has_rowid}
use Rattle.sqlite_trees.proofs.ListLemmas.{all-permutation, filter-map, IsPermutation-filter}
use Rattle.std.specs.List.{list_all}
use Rattle.sb_types.specs.Records.{Table}
use Rattle.sb_table.specs.Plain.{IsPlainTable}
use Rattle.sb_log.specs.Standing.{IsReady, IsPrepared}
use Rattle.sb_log.specs.Opening.{meta_cells}
use Rattle.sqlite.proofs.Callers.{reads_as, never_commits, command_of, IsPlain as IsCallPlain}
use Rattle.sb_log.specs.Form.{rows_text, meta_rows_text, log_schema}
use Rattle.sb_log.specs.Rows.{cells, cells_of, is_kept, numbered_cells, AreNumbered, AreNumberedApart, AreRowsOf}
use Rattle.sb_log.proofs.Texts.{rows_query, rows_is, rows_plain, meta_query, meta_names, meta_rows_is, meta_rows_plain}

shown_each : (rows : List Row) → map (λ (o : Output). o.1) (map (output rows_query) (flat_map (λ (r : Row). ([] ∷ r ∷ []) ∷ []) rows)) ≡ map numbered_cells rows
shown_each [] = refl
shown_each (r ∷ rows) = ap (λ (l : List Row). numbered_cells r ∷ l) (shown_each rows)

-- it is a row for each row of the table, in some order
pub rows_read : (old new : State) (rows : List Row) → old.now.schema ≡ log_schema → Shown rows_text [] old new rows → IsPermutation (map numbered_cells (old.now.trees 1)) rows
rows_read old new rows has h =
    let read = reads_as rows_text [] old new log_schema has _ rows_is.0 rows_plain rows_is.1 rows h in
    let a : IsAnswer rows_query (overlay old.now.trees []) [] rows = read.answer Null in
    let shown : map (λ (o : Output). o.1) a.kept ≡ map numbered_cells (old.now.trees 1) =
    ap (map (λ (o : Output). o.1)) (a.distinct ∙ ap (map (output rows_query)) a.grouped) ∙ shown_each (old.now.trees 1) in
    subst₂ IsPermutation shown (sym a.shown) (IsPermutation-map (λ (o : Output). o.1) a.kept a.ordered a.same)

unmapped_numbers : (rows : List Row) → AreNumbered (map numbered_cells rows) → AreNumbered rows
unmapped_numbers [] all = tt
unmapped_numbers (r ∷ rows) all = (all.0, unmapped_numbers rows all.1)

without_numbers : (rows : List Row) → map (drop 1) (map numbered_cells rows) ≡ map cells rows
without_numbers [] = refl
without_numbers (r ∷ rows) = ap (λ (l : List Row). cells r ∷ l) (without_numbers rows)

-- the answer numbers the rows as the table does
pub counted_alike : (n : ℤ) (rows shown : List Row) → IsPermutation (map numbered_cells rows) shown → length (filter (has_rowid n) shown) ≡ length (filter (has_rowid n) rows)
counted_alike n rows shown same =
    length_permutation _ _ (IsPermutation-filter (has_rowid n) (map numbered_cells rows) shown same)
    ∙ ap length (filter-map (has_rowid n) numbered_cells rows) ∙ length-map (filter (has_rowid n) rows) numbered_cells

-- what is read as a table's rows are the table's rows
pub are_rows : (rows shown : List Row) (t : Table) → IsPermutation (map numbered_cells rows) shown → IsPlainTable t → list_all is_kept t.entries ≡ true → AreNumbered shown → AreNumberedApart shown
    → map cells_of t.entries ≡ map (drop 1) shown → AreRowsOf t rows
are_rows rows shown t same plain kept numbered once is =
    record {
      plain = plain;
      kept = kept;
      same = subst₂ IsPermutation (without_numbers rows) (sym is) (IsPermutation-map (drop 1) (map numbered_cells rows) shown same);
      numbered = unmapped_numbers rows (all-permutation _ shown (map numbered_cells rows) (IsPermutation-sym _ _ same) numbered);
      apart = λ n. omega (arith, once n, counted_alike n rows shown same);
    }

pub read_unchanged : (old new : State) (rows : List Row) → IsReady old → Shown rows_text [] old new rows → IsUnchanged old new
unfolding Shown
read_unchanged old new rows ready h =
    let known = sym h.1.is ∙ ap (λ (s : Schema). understood s rows_text) ready.schema in
    let bare = subst IsCallPlain (sym known) rows_plain in
    let it = rw bare.0 at h.2 in
    it.3

pub still_ready : (old new : State) → IsReady old → IsUnchanged old new → IsReady new × (new.now ≡ old.now)
still_ready old new ready same =
    let shown = same.0 in (
      record {
        is_open = shown.is_open;
        autocommit = shown.mode ∙ ready.autocommit;
        settled = shown.now_is ∙ ready.settled ∙ sym shown.committed_is;
        schema = ap (λ (d : Database). d.schema) shown.now_is ∙ ready.schema;
        sound = subst IsDatabase (sym shown.now_is) ready.sound;
      },
      shown.now_is,
    )

pub read_ready : (old new : State) (rows : List Row) → IsReady old → Shown rows_text [] old new rows → IsReady new × (new.now ≡ old.now)
read_ready old new rows ready h = still_ready old new ready (read_unchanged old new rows ready h)

pub read_commits : {A : Type 0} (old : State) (db : Trees) → IsReady old → A ⊎ CommitsShowing rows_text [] old db → A
read_commits old db ready (inl left) = left
read_commits old db ready (inr commits) = absurd (never_commits rows_text [] old db (subst (λ (s : Schema). IsCallPlain (understood s rows_text)) (sym ready.schema) rows_plain) commits)

pub table_is : (rows shown : List Row) (result : Result Table Fault) → IsPermutation (map numbered_cells rows) shown → IfOk result IsPlainTable → IfOk result (λ t. list_all is_kept t.entries ≡ true)
    → OnOk result (AreNumbered shown) → OnOk result (AreNumberedApart shown) → IfOk result (λ t. map cells_of t.entries ≡ map (drop 1) shown) → IfOk result (λ t. AreRowsOf t rows)
table_is rows shown (Ok t) same plain kept numbered once is = are_rows rows shown t same plain kept numbered once is
table_is rows shown (Err fault) same plain kept numbered once is = tt

-- ---- the row of meta

meta_shown : (rows : List Row) → map (λ (o : Output). o.1) (map (output meta_query) (flat_map (λ (r : Row). ([] ∷ r ∷ []) ∷ []) rows)) ≡ map meta_cells rows
meta_shown [] = refl
meta_shown (r ∷ rows) = ap (λ (l : List Row). meta_cells r ∷ l) (meta_shown rows)

-- whatever else the database has
module _ (known : Schema) (is : (command_of (understood known meta_rows_text) ≡ Select (record { lets = []; body = meta_query }) meta_names) × (reads_listing known meta_rows_text ≡ false))
    (plain : IsCallPlain (understood known meta_rows_text)) (old new : State) (rows : List Row) (has : old.now.schema ≡ known) (h : Shown meta_rows_text [] old new rows) where
  pub meta_read : IsPermutation (map meta_cells (old.now.trees 0)) rows
  meta_read =
      let read = reads_as meta_rows_text [] old new known has _ is.0 plain is.1 rows h in
      let a : IsAnswer meta_query (overlay old.now.trees []) [] rows = read.answer Null in
      let shown : map (λ (o : Output). o.1) a.kept ≡ map meta_cells (old.now.trees 0) =
      ap (map (λ (o : Output). o.1)) (a.distinct ∙ ap (map (output meta_query)) a.grouped) ∙ meta_shown (old.now.trees 0) in
      subst₂ IsPermutation shown (sym a.shown) (IsPermutation-map (λ (o : Output). o.1) a.kept a.ordered a.same)

  pub meta_unchanged : IsUnchanged old new
  unfolding Shown
  meta_unchanged =
      let known = sym h.1.is ∙ ap (λ (s : Schema). understood s meta_rows_text) has in
      let bare = subst IsCallPlain (sym known) plain in
      let it = rw bare.0 at h.2 in
      it.3

pub meta_ready : (old new : State) (rows : List Row) → IsPrepared old → Shown meta_rows_text [] old new rows → IsReady new × (new.now ≡ old.now)
meta_ready old new rows ready h =
    let same = meta_unchanged log_schema meta_rows_is meta_rows_plain old new rows ready.schema h in
    still_ready old new (record { is_open = same.0.was_open; autocommit = ready.autocommit; settled = ready.settled same.0.was_open; schema = ready.schema; sound = ready.sound same.0.was_open }) same

-- a read of it commits nothing
pub meta_commits : (known : Schema) (plain : IsCallPlain (understood known meta_rows_text)) {A : Type 0} (old : State) (db : Trees) → old.now.schema ≡ known → A ⊎ CommitsShowing meta_rows_text [] old db → A
meta_commits known plain old db has (inl left) = left
meta_commits known plain old db has (inr commits) = absurd (never_commits meta_rows_text [] old db (subst (λ (s : Schema). IsCallPlain (understood s meta_rows_text)) (sym has) plain) commits)
