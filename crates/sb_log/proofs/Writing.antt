-- What the statement that writes an entry does, and what it commits.
use Rattle.std.specs.Prelude.{OnOk}
use Rattle.std.proofs.Common.{◌≡◌, ◌⊎◌, inl, inr, ℕ, ℤ, pos, Bool, true, false, cond, not, List, [], ◌∷◌, ◌++◌, append-nil, drop, Option, None, Some, Ok, refl, sym, ap, subst, subst₂, ◌∙◌, arith, IsPermutation, Result, Err}
use Rattle.std.proofs.lemmas.Bool.{and_parts, not-true}
use Rattle.std.proofs.lemmas.List.Sorted.{IsPermutation-filter_both}
use Rattle.sqlite_value.specs.declared.value.Value.{Value}
use Rattle.sqlite_value.specs.declared.value.Value.TheVariants.{Null, Int, Text}
use Rattle.sqlite_value.specs.Order.{Row, column}
use Rattle.sqlite_trees.specs.Tree.{Trees, rowid, has_rowid, put_row, without_rowid}
use Rattle.sqlite_sql.specs.Program.{overlay}
use Rattle.sqlite_sql.specs.Query.{IsAnswer}
use Rattle.sqlite_schema.specs.declared.command.Command.{Command}
use Rattle.sqlite_schema.specs.declared.command.Command.TheVariants.{InsertOr}
use Rattle.sqlite_schema.specs.declared.command.Conflict.TheVariants.{Abort}
use Rattle.sqlite_schema.specs.declared.command.Source.TheVariants.{Values}
use Rattle.sqlite_schema.specs.declared.schema.Schema.{Schema}
use Rattle.sqlite_rules.specs.declared.error.Rowids.TheVariants.{Given}
use Rattle.sqlite_rules.specs.Cast.{cast_all, cast_row}
use Rattle.sqlite_rules.specs.Edit.{next_rowid, id_in, edit_of, is_taken, without_all, Applies}
use Rattle.sqlite_rules.specs.Keys.{AreConflicts}
use Rattle.sqlite_rules.proofs.ListLemmas.{all_has}
use Rattle.sqlite_rules.proofs.TableLemmas.{int_is}
use Rattle.sqlite_rules.specs.Calls.{ids_of}
use Rattle.sqlite.specs.Does.{Tally, Does}
use Rattle.sqlite.specs.Effect.{Database}
use Rattle.sqlite.specs.Rows.{Written, Updates, shown}
use Rattle.sqlite.specs.declared.run.Mode.{Mode}
use Rattle.sqlite.specs.Listing.{understood}
use Rattle.sqlite_catalog.specs.Listing.{IsSound}
use Rattle.sqlite.specs.State.{State, Writes, Executes, CommitsBy, MayCommit, mode_of}
use Rattle.sqlite.proofs.Callers.{IsPlain, command_of, statement_of, runs_as, one_step}
use Rattle.sb_types.specs.declared.entry.Slot.{Slot}
use Rattle.sb_types.specs.declared.entry.Slot.TheVariants.{Set, Removed}
use Rattle.sb_types.specs.Kinds as kinds
use Rattle.sb_types.specs.Kinds.{tag_of, kind_of, content_of}
use Rattle.sb_types.specs.Records.{Entry, Table}
use Rattle.sb_table.specs.Plain.{IsPlainTable, with_entry}
use Rattle.sb_log.specs.Form.{log_schema, writes_table, writes_columns, upsert_text}
use Rattle.sb_log.specs.Rows.{cells, cells_of, number_cell, text_cell, slot_cells, is_kept, AreRowsOf, Enters}
use Rattle.sb_log.specs.Standing.{IsReady}
use Rattle.sb_log.proofs.Making.{went, same_value}
use Rattle.sb_log.proofs.Texts.{upsert_terms, on_key, update_query, update_program, upsert_is, upsert_plain}
use Rattle.sb_log.proofs.Upserting.{Leaves, task, new_row, upserted, cast_null, cast_int}
use Rattle.sb_log.proofs.Updating.{out, found_are, one_found}
use Rattle.sb_log.proofs.Entering.{enters_new, enters_there, key_there}

abbrev c0 : Slot → Value
c0 s = column (slot_cells s) 0

abbrev c1 : Slot → Value
c1 s = column (slot_cells s) 1

abbrev c2 : Slot → Value
c2 s = column (slot_cells s) 2

three : (s : Slot) → slot_cells s ≡ c0 s ∷ c1 s ∷ c2 s ∷ []
three Removed = refl
three (Set value) = refl

fits_content : (tag : ℕ) (c : kinds.Content) → cast_all (drop 2 writes_columns) (Int (pos tag) ∷ number_cell c ∷ text_cell c ∷ []) ≡ Int (pos tag) ∷ number_cell c ∷ text_cell c ∷ []
fits_content tag (kinds.Word text) = λ i. cast_int (pos tag) i ∷ cast_null i ∷ Text text ∷ []
fits_content tag (kinds.Text text) = λ i. cast_int (pos tag) i ∷ cast_null i ∷ Text text ∷ []
fits_content tag (kinds.Number number) = λ i. cast_int (pos tag) i ∷ cast_int (pos number) i ∷ Null ∷ []
fits_content tag (kinds.Truth true) = λ i. cast_int (pos tag) i ∷ cast_int (pos 1) i ∷ Null ∷ []
fits_content tag (kinds.Truth false) = λ i. cast_int (pos tag) i ∷ cast_int (pos 0) i ∷ Null ∷ []

module _ (e : Entry) where
  abbrev spread : Row
  spread = Text e.key ∷ Int (pos e.version) ∷ c0 e.slot ∷ c1 e.slot ∷ c2 e.slot ∷ []

  spread_is : cells_of e ≡ spread
  spread_is = ap (λ (r : Row). Text e.key ∷ Int (pos e.version) ∷ r) (three e.slot)

  abbrev changed_of : Row → Row
  changed_of = out (Text e.key) (Int (pos e.version)) (c0 e.slot) (c1 e.slot) (c2 e.slot)

  fits_slot : (s : Slot) → cast_all (drop 2 writes_columns) (c0 s ∷ c1 s ∷ c2 s ∷ []) ≡ c0 s ∷ c1 s ∷ c2 s ∷ []
  fits_slot Removed = λ i. cast_int (pos 0) i ∷ cast_null i ∷ Null ∷ []
  fits_slot (Set value) = fits_content (tag_of (kind_of value)) (content_of value)

  fits : cast_all writes_columns spread ≡ spread
  fits = λ i. Text e.key ∷ cast_int (pos e.version) i ∷ fits_slot e.slot i

  cast_at : (n : ℤ) → cast_row writes_table (Int n ∷ spread) ≡ Int n ∷ spread
  cast_at n = λ i. cast_int n i ∷ fits i

  new_cells : (n : ℤ) → cells (Int n ∷ spread) ≡ cells_of e
  new_cells n = sym spread_is

  module _ (limit : Option ℕ) (mode : Mode) (t : Table) (db next : Trees) (are : AreRowsOf t (db 1)) (kept : is_kept e ≡ true) (plain : IsPlainTable (with_entry t e)) where
    abbrev fresh : Row
    fresh = new_row limit mode (Text e.key) (Int (pos e.version)) (c0 e.slot) (c1 e.slot) (c2 e.slot) fits (db 1)

    inserted : AreConflicts (Some (1 ∷ [])) log_schema.indexes writes_table (db 1) fresh []
        → Applies log_schema mode.keys db (edit_of db writes_table [] Given 0 (fresh ∷ [])) next → AreRowsOf (with_entry t e) (next 1)
    inserted none put =
        let n = next_rowid (db 1) in
        let rows : next 1 ≡ put_row (cast_row writes_table fresh) (db 1) = put.rows in
        let free : is_taken (db 1) (cast_row writes_table fresh) ≡ false = not-true _ (and_parts _ _ put.fresh).0 in
        subst (λ (rs : List Row). AreRowsOf (with_entry t e) rs) (sym rows)
        (subst (λ (r : Row). is_taken (db 1) r ≡ false → AreRowsOf (with_entry t e) (put_row r (db 1))) (sym (cast_at n))
        (enters_new e t (db 1) are kept plain fresh (new_cells n) refl (λ r here meets. none.complete r here meets)) free)

    there_changed : (there : Row) (more : List Row) → AreConflicts (Some (1 ∷ [])) log_schema.indexes writes_table (db 1) fresh (there ∷ more)
        → (w : Written) → w.trees ≡ next → Updates (task limit mode (Text e.key) (Int (pos e.version)) (c0 e.slot) (c1 e.slot) (c2 e.slot) fits) update_program (spread ++ rowid there ∷ shown writes_table fresh) db (Ok w)
        → AreRowsOf (with_entry t e) (next 1)
    there_changed there more some w same update =
        let met = some.sound there (inl refl) in
        let r : Row = met.0 in
        let n : ℤ = id_in (rowid r) in
        let id : rowid r ≡ Int n = int_is (rowid r) (all_has _ (db 1) r are.numbered met.1) in
        let first = went update in
        let found : List Row = first.0 in
        let second = went first.2 in
        let after : Trees = second.0 in
        let new_trees : w.trees ≡ after = ap (λ (it : Written). it.trees) (same_value second.2) in
        let answer : IsAnswer update_query (overlay db []) (spread ++ Int n ∷ shown writes_table fresh) found =
        subst (λ (v : Value). IsAnswer update_query (overlay db []) (spread ++ v ∷ shown writes_table fresh) found) (ap rowid met.3 ∙ id) (first.1.answer Null) in
        let shows = found_are (Text e.key) (Int (pos e.version)) (c0 e.slot) (c1 e.slot) (c2 e.slot) n (rowid fresh) db found are.numbered answer in
        let put = one_step log_schema mode.keys db after (edit_of db writes_table (ids_of found) Given 1 found) refl second.1 in
        let one = one_found (Text e.key) (Int (pos e.version)) (c0 e.slot) (c1 e.slot) (c2 e.slot) n (db 1) (without_all (db 1) (ids_of found)) found r are.numbered met.1 id shows put.fresh in
        let changed : Applies log_schema mode.keys db (edit_of db writes_table (ids_of (changed_of r ∷ [])) Given 1 (changed_of r ∷ [])) after =
        subst (λ (f : List Row). Applies log_schema mode.keys db (edit_of db writes_table (ids_of f) Given 1 f) after) one.1 put in
        let key : column r 1 ≡ Text e.key = key_there e t (db 1) are kept plain fresh (new_cells (next_rowid (db 1))) refl r met.1 met.2 in
        let news : cast_row writes_table (drop 1 (changed_of r)) ≡ Int n ∷ spread =
        (λ i. cast_row writes_table (id i ∷ key i ∷ Int (pos e.version) ∷ c0 e.slot ∷ c1 e.slot ∷ c2 e.slot ∷ [])) ∙ cast_at n in
        let free : is_taken (without_rowid n (db 1)) (Int n ∷ spread) ≡ false =
        subst (λ (x : Row). is_taken (without_rowid n (db 1)) x ≡ false) news (not-true _ (and_parts _ _ changed.fresh).0) in
        let rows : next 1 ≡ put_row (Int n ∷ spread) (without_rowid n (db 1)) =
        ap (λ (trees : Trees). trees 1) (sym same ∙ new_trees) ∙ changed.rows ∙ ap (λ (x : Row). put_row x (without_rowid n (db 1))) news in
        let split : IsPermutation (db 1) (r ∷ without_rowid n (db 1)) =
        subst (λ (l : List Row). IsPermutation (db 1) (l ++ without_rowid n (db 1))) one.0 (IsPermutation-filter_both (has_rowid n) (λ x. not (has_rowid n x)) (λ x. refl) (db 1)) in
        subst (AreRowsOf (with_entry t e)) (sym rows) (enters_there e t (db 1) are kept plain (Int n ∷ spread) (new_cells n) refl r (without_rowid n (db 1)) met.1 met.2 split free)

    entered : Leaves limit mode (Text e.key) (Int (pos e.version)) (c0 e.slot) (c1 e.slot) (c2 e.slot) fits db next → AreRowsOf (with_entry t e) (next 1)
    entered (inl new) = inserted new.0 new.1
    entered (inr old) = there_changed old.0 old.1 old.2 old.3 old.4 old.5

-- the rows that say whose log it is stay, whether a row goes in or is changed
apart : ◌≡◌ {A = ℕ} 0 1 → ⊥
apart e = absurd (omega (arith, e))

spares : (limit : Option ℕ) (mode : Mode) (a b c d e : Value) (fits : cast_all writes_columns (a ∷ b ∷ c ∷ d ∷ e ∷ []) ≡ a ∷ b ∷ c ∷ d ∷ e ∷ []) (db next : Trees)
    → Leaves limit mode a b c d e fits db next → next 0 ≡ db 0
spares limit mode a b c d e cast db next (inl new) = new.1.tables.0 apart
spares limit mode a b c d e cast db next (inr old) =
    let first = went old.5 in
    let second = went first.2 in
    let put = one_step log_schema mode.keys db second.0 (edit_of db writes_table (ids_of first.0) Given 1 first.0) refl second.1 in
    ap (λ (trees : Trees). trees 0) (sym old.4 ∙ ap (λ (it : Written). it.trees) (same_value second.2)) ∙ put.tables.0 apart

-- ---- the statement

abbrev upsert : Command
upsert = InsertOr 1 Abort (Values upsert_terms 6) (on_key ∷ [])

abbrev text_run : List ℕ
text_run = statement_of upsert_text (understood log_schema upsert_text)

module _ (e : Entry) (kept : is_kept e ≡ true) (old : State) (ready : IsReady old) where
  does : (limit : Option ℕ) (mode : Mode) (tally : Tally) (after : Database) → Does limit mode (cells_of e) old.now text_run None upsert (Ok (tally, after))
      → (after.schema ≡ log_schema) × Enters e (old.now.trees 1) (after.trees 1) × (after.trees 0 ≡ old.now.trees 0)
  does limit mode tally after h =
      let d = subst (λ (params : Row). Does limit mode params old.now text_run None upsert (Ok (tally, after))) (spread_is e) h in
      let up = upserted limit mode (Text e.key) (Int (pos e.version)) (c0 e.slot) (c1 e.slot) (c2 e.slot) (fits e) text_run old.now tally after ready.schema d in
      (up.0, λ t plain are. entered e limit mode t old.now.trees after.trees are kept plain up.1, spares limit mode (Text e.key) (Int (pos e.version)) (c0 e.slot) (c1 e.slot) (c2 e.slot) (fits e) old.now.trees after.trees up.1)

  ran : (new : State) (count : ℕ) → Executes upsert_text (cells_of e) old new (Ok count) → Writes old new None upsert text_run (cells_of e) count
  ran new count h = runs_as upsert_text (cells_of e) old new log_schema ready.schema upsert upsert_is upsert_plain count h

  pub write_enters : (new : State) (count : ℕ) → Executes upsert_text (cells_of e) old new (Ok count) → Enters e (old.now.trees 1) (new.now.trees 1)
  write_enters new count h = let w = ran new count h in (does old.step_limit (mode_of old) w.tally new.now w.changed).1

  pub write_spares : (new : State) (count : ℕ) → Executes upsert_text (cells_of e) old new (Ok count) → new.now.trees 0 ≡ old.now.trees 0
  write_spares new count h = let w = ran new count h in (does old.step_limit (mode_of old) w.tally new.now w.changed).2

  pub write_ready : (new : State) (count : ℕ) → Executes upsert_text (cells_of e) old new (Ok count) → IsReady new
  write_ready new count h =
      let w = ran new count h in
      let shown = w.shown in
      record {
        is_open = shown.is_open;
        autocommit = shown.mode ∙ ready.autocommit;
        settled = subst (λ (b : Bool). new.committed ≡ cond b old.committed new.now → new.now ≡ new.committed) (sym ready.autocommit) (λ (is : new.committed ≡ new.now). sym is) shown.committed_is;
        schema = (does old.step_limit (mode_of old) w.tally new.now w.changed).0;
        sound = w.sound;
      }

  abbrev WritesOnce : Trees → Type 0
  WritesOnce db = IsSound log_schema db × (Enters e (old.now.trees 1) (db 1) × (db 0 ≡ old.now.trees 0))

  may_commit : (db : Trees) → MayCommit old None upsert text_run (cells_of e) db → WritesOnce db
  may_commit db (inl ends) = absurd (elim ends.0 [ inl commits ↦ cc | inr releases ↦ let is = releases.2 in cc ])
  may_commit db (inr writes) = let done = does old.step_limit (mode_of old) writes.1 writes.2 writes.3 in subst WritesOnce (sym writes.5) (subst (λ (s : Schema). IsSound s writes.2.trees) done.0 writes.4, (done.1, done.2))

  pub write_commits : (db : Trees) → CommitsBy upsert_text (cells_of e) old db → WritesOnce db
  unfolding CommitsBy
  write_commits db h =
      let known = sym h.1.is ∙ ap (λ (s : Schema). understood s upsert_text) ready.schema in
      let bare = subst IsPlain (sym known) upsert_plain in
      may_commit db (subst₂ (λ (k : Command) (text : List ℕ). MayCommit old None k text (cells_of e) db) (ap command_of known ∙ upsert_is) (ap (statement_of upsert_text) known)
      (rw (bare.0, bare.1, append-nil (cells_of e)) at h.2))

pub or_commits : {A B C : Type 0} → (B → C) → A ⊎ B → A ⊎ C
or_commits f (inl a) = inl a
or_commits f (inr b) = inr (f b)

-- ---- what is said of an answer

pub so_on_ok : {A E P Q : Type 0} (result : Result A E) → OnOk result P → (P → Q) → OnOk result Q
so_on_ok (Ok a) p f = f p
so_on_ok (Err e) p f = tt
