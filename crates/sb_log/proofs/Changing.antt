-- What an update of the one row that says whose log it is does.
use Rattle.std.proofs.Common.{◌≡◌, inl, inr, ℕ, ℤ, pos, Bool, true, cond, not, List, [], ◌∷◌, map, drop, append-nil, Option, None, Ok, refl, sym, ap, subst, subst₂, ◌∙◌, arith, is_eq}
use Rattle.sqlite_value.specs.declared.value.Value.{Value}
use Rattle.sqlite_value.specs.declared.value.Value.TheVariants.{Null, Int}
use Rattle.sqlite_value.specs.Order.{Row, column, value_cmp}
use Rattle.sqlite_value.proofs.OrderLemmas.{value_cmp-Int}
use Rattle.sqlite_trees.specs.Tree.{Trees, rowid, has_rowid, without_rowid}
use Rattle.sqlite_sql.specs.Query.{Query, IsAnswer}
use Rattle.sqlite_sql.specs.Program.{overlay}
use Rattle.sqlite_schema.specs.declared.command.Command.{Command}
use Rattle.sqlite_schema.specs.declared.command.Command.TheVariants.{Update}
use Rattle.sqlite_schema.specs.declared.program.Program.{Program}
use Rattle.sqlite_schema.specs.declared.schema.Schema.{Schema}
use Rattle.sqlite_rules.specs.declared.error.Rowids.TheVariants.{Given}
use Rattle.sqlite_rules.specs.Cast.{cast_row}
use Rattle.sqlite_rules.specs.Calls.{ids_of}
use Rattle.sqlite_rules.specs.Edit.{edit_of, numbered, put_all, without_all}
use Rattle.sqlite_catalog.specs.Listing.{IsSound}
use Rattle.sqlite.specs.declared.run.Mode.{Mode}
use Rattle.sqlite.specs.Does.{Tally, Does}
use Rattle.sqlite.specs.Effect.{Database}
use Rattle.sqlite.specs.Rows.{Written}
use Rattle.sqlite.specs.Listing.{understood}
use Rattle.sqlite.specs.State.{State, Writes, Executes, MayCommit, CommitsBy, mode_of}
use Rattle.sqlite.proofs.Callers.{IsPlain, command_of, statement_of, runs_as, one_step}
use Rattle.sb_log.specs.Form.{log_schema, meta_table}
use Rattle.sb_log.specs.Opening.{meta_cells, meta_row, IsNamedIn}
use Rattle.sb_log.specs.Standing.{IsReady}
use Rattle.sb_log.proofs.Making.{went, same_value, commits}
use Rattle.sb_log.proofs.Naming.{source, one_named, cell}
use Rattle.sb_log.proofs.Updating.{int_same}

apart : ◌≡◌ {A = ℕ} 1 0 → ⊥
apart e = absurd (omega (arith, e))

abbrev pub program_of : Query → Program
program_of query = record { lets = []; body = query }

-- of one row the query shows its rowid and what becomes of it
abbrev pub Shows : Query → Row → Row → Row → Type 0
Shows query params r new = (db : Trees) (found : List Row) → db 0 ≡ r ∷ [] → IsAnswer query (overlay db []) params found → found ≡ (column r 0 ∷ new) ∷ []

module _ (query : Query) (params r new : Row) (finds : Shows query params r new) (limit : Option ℕ) (mode : Mode) (n : ℤ) (id : rowid r ≡ Int n) where
  gone : without_rowid n (r ∷ []) ≡ []
  gone =
      let here : has_rowid n r ≡ true = ap (λ (v : Value). is_eq (value_cmp v (Int n))) id ∙ ap is_eq (value_cmp-Int n n) ∙ int_same n in
      ap (λ (b : Bool). cond (not b) (r ∷ []) []) here

  changed : (text : List ℕ) (db : Database) (tally : Tally) (after : Database) → db.schema ≡ log_schema → db.trees 0 ≡ r ∷ [] → Does limit mode params db text None (Update 0 (program_of query)) (Ok (tally, after))
      → (after.schema ≡ log_schema) × (after.trees 1 ≡ db.trees 1) × (after.trees 0 ≡ cast_row meta_table new ∷ [])
  changed text db tally after has one h =
      let done = went (subst (λ (s : Schema). Does limit mode params (record db { schema = s }) text None (Update 0 (program_of query)) (Ok (tally, after))) has h) in
      let now = ap (λ (p : Tally × Database). p.1) (same_value (went (went done.2).2).2) in
      let first = went done.1 in
      let second = went first.2 in
      let found = finds db.trees first.0 one (first.1.answer Null) in
      let trees : done.0.trees ≡ second.0 = ap (λ (it : Written). it.trees) (same_value second.2) in
      let put = one_step log_schema mode.keys db.trees second.0 (edit_of db.trees meta_table (ids_of first.0) Given 1 first.0) refl second.1 in
      let at : (t : ℕ) → after.trees t ≡ second.0 t = λ t. ap (λ (d : Database). d.trees t) now ∙ ap (λ (all : Trees). all t) trees in
      let rows : second.0 0 ≡ put_all (without_rowid n (r ∷ [])) (cast_row meta_table new ∷ []) =
      put.rows ∙ (λ i. put_all (without_all (one i) (ids_of (found i))) (numbered Given (without_all (one i) (ids_of (found i))) (map (λ (s : Row). cast_row meta_table (drop 1 s)) (found i))))
      ∙ ap (λ (ids : List ℤ). put_all (without_all (r ∷ []) ids) (cast_row meta_table new ∷ [])) (ap (λ (v : Value). ids_of ((v ∷ new) ∷ [])) id) in (
        ap (λ (d : Database). d.schema) now,
        at 1 ∙ put.tables.1.0 apart,
        at 0 ∙ rows ∙ ap (λ (left : List Row). put_all left (cast_row meta_table new ∷ [])) gone,
      )

-- a text that is such an update: of the row that says the first of two forms, last versions and floors it makes the row that says the second
module _ (text : List ℕ) (params : Row) (query : Query) (is : command_of (understood log_schema text) ≡ Update 0 (program_of query)) (plain : IsPlain (understood log_schema text))
    (becomes : Row → Row) (finds : (r : Row) → Shows query params r (becomes r)) (owner cluster : List ℕ) (form last floor form' last' floor' : ℕ)
    (renamed : (r : Row) → meta_cells r ≡ meta_row form owner cluster last floor → cast_row meta_table (becomes r) ≡ source form' owner cluster last' floor') where
  abbrev update : Command
  update = Update 0 (program_of query)

  abbrev text_run : List ℕ
  text_run = statement_of text (understood log_schema text)

  updates : (limit : Option ℕ) (mode : Mode) (db : Database) (tally : Tally) (after : Database) → db.schema ≡ log_schema → IsNamedIn form owner cluster last floor (db.trees 0)
      → Does limit mode params db text_run None update (Ok (tally, after)) → (after.schema ≡ log_schema) × (after.trees 1 ≡ db.trees 1) × IsNamedIn form' owner cluster last' floor' (after.trees 0)
  updates limit mode db tally after has named h =
      let one = one_named form owner cluster last floor (db.trees 0) named in
      let did = changed query params one.0 (becomes one.0) (finds one.0) limit mode (pos 1) (cell form owner cluster last floor one.0 one.2 0) text_run db tally after has one.1 h in
      (did.0, did.1, ap (map meta_cells) (did.2 ∙ ap (λ (r : Row). r ∷ []) (renamed one.0 one.2)))

  module _ (old : State) (ready : IsReady old) (named : IsNamedIn form owner cluster last floor (old.now.trees 0)) where
    module _ (new : State) (count : ℕ) (h : Executes text params old new (Ok count)) where
      ran : Writes old new None update text_run params count
      ran = runs_as text params old new log_schema ready.schema update is plain count h

      did : (new.now.schema ≡ log_schema) × (new.now.trees 1 ≡ old.now.trees 1) × IsNamedIn form' owner cluster last' floor' (new.now.trees 0)
      did = updates old.step_limit (mode_of old) old.now ran.tally new.now ready.schema named ran.changed

      pub update_ready : IsReady new
      update_ready =
          let done = commits old new update text_run params count ran ready.autocommit in
          record { is_open = done.2; autocommit = done.0; settled = done.1; schema = did.0; sound = ran.sound }

      pub update_rows : new.now.trees 1 ≡ old.now.trees 1
      update_rows = did.1

      pub update_meta : IsNamedIn form' owner cluster last' floor' (new.now.trees 0)
      update_meta = did.2

    -- what a crash leaves of it
    abbrev pub UpdatedIn : Trees → Type 0
    UpdatedIn db = IsSound log_schema db × (db 1 ≡ old.now.trees 1) × IsNamedIn form' owner cluster last' floor' (db 0)

    may_update : (db : Trees) → MayCommit old None update text_run params db → UpdatedIn db
    may_update db (inl ends) = absurd (elim ends.0 [ inl commits ↦ cc | inr releases ↦ let is = releases.2 in cc ])
    may_update db (inr writes) =
        let did = updates old.step_limit (mode_of old) old.now writes.1 writes.2 ready.schema named writes.3 in
        subst UpdatedIn (sym writes.5) (subst (λ (s : Schema). IsSound s writes.2.trees) did.0 writes.4, did.1, did.2)

    pub updates_in : (db : Trees) → CommitsBy text params old db → UpdatedIn db
    unfolding CommitsBy
    updates_in db h =
        let known = sym h.1.is ∙ ap (λ (s : Schema). understood s text) ready.schema in
        let bare = subst IsPlain (sym known) plain in
        may_update db (subst₂ (λ (k : Command) (t : List ℕ). MayCommit old None k t params db) (ap command_of known ∙ is) (ap (statement_of text) known) (rw (bare.0, bare.1, append-nil params) at h.2))
