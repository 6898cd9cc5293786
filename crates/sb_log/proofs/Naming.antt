-- What the statement that says whose log it is does.
use Rattle.std.proofs.Common.{◌≡◌, inl, inr, ℕ, pos, List, [], ◌∷◌, length, map, drop, Option, None, Ok, refl, sym, ap, subst, subst₂, ◌∙◌, arith}
use Rattle.sqlite_value.specs.declared.value.Value.TheVariants.{Null, Int, Text}
use Rattle.sqlite_value.specs.Order.{Row, column}
use Rattle.sqlite_trees.specs.Tree.{Trees}
use Rattle.sqlite_schema.specs.declared.command.Command.{Command}
use Rattle.sqlite_schema.specs.declared.command.Command.TheVariants.{Insert}
use Rattle.sqlite_schema.specs.declared.command.Source.TheVariants.{Values}
use Rattle.sqlite_schema.specs.declared.schema.Schema.{Schema}
use Rattle.sqlite_rules.specs.declared.error.Rowids.TheVariants.{Chosen}
use Rattle.sqlite_rules.specs.Cast.{cast_row}
use Rattle.sqlite_rules.specs.Edit.{edit_of, numbered, put_all}
use Rattle.sqlite.specs.declared.run.Mode.{Mode}
use Rattle.sqlite.specs.Does.{Tally, Does}
use Rattle.sqlite.specs.Effect.{Database}
use Rattle.sqlite.specs.Rows.{Written}
use Rattle.sqlite.specs.Listing.{understood}
use Rattle.sqlite.specs.State.{State, Writes, Executes, MayCommit, CommitsBy, mode_of}
use Rattle.sqlite_catalog.specs.Listing.{IsSound}
use Rattle.sqlite.proofs.Callers.{IsPlain, command_of, statement_of, runs_as, one_step}
use Rattle.sb_log.specs.Form.{newest_form, log_schema, meta_table, meta_row_text}
use Rattle.sb_log.specs.Opening.{meta_cells, meta_row, IsNamedIn}
use Rattle.sb_log.specs.Standing.{IsReady}
use Rattle.sb_log.proofs.Making.{went, same_value, commits}
use Rattle.sb_log.proofs.Texts.{meta_terms, meta_row_is, meta_row_plain}
use Rattle.sb_log.proofs.Upserting.{cast_null, cast_int}

apart : ◌≡◌ {A = ℕ} 1 0 → ⊥
apart e = absurd (omega (arith, e))

module _ (form : ℕ) (owner cluster : List ℕ) (last floor : ℕ) where
  abbrev pub source : Row
  source = Int (pos 1) ∷ Null ∷ Int (pos form) ∷ Text owner ∷ Text cluster ∷ Int (pos last) ∷ Int (pos floor) ∷ []

  pub cast_source : cast_row meta_table source ≡ source
  cast_source = λ i. cast_int (pos 1) i ∷ cast_null i ∷ cast_int (pos form) i ∷ Text owner ∷ Text cluster ∷ cast_int (pos last) i ∷ cast_int (pos floor) i ∷ []

  -- the one row that is named so
  pub one_named : (rows : List Row) → IsNamedIn form owner cluster last floor rows → (r : Row) × (rows ≡ r ∷ []) × (meta_cells r ≡ meta_row form owner cluster last floor)
  one_named [] named = absurd (let few : ◌≡◌ {A = ℕ} 0 1 = ap length named in omega (arith, few))
  one_named (r ∷ []) named = (r, refl, (let same : meta_cells r ≡ meta_row form owner cluster last floor = cc in same))
  one_named (r ∷ s ∷ more) named = absurd (let many = ap length named in omega (arith, many))

  pub cell : (r : Row) → meta_cells r ≡ meta_row form owner cluster last floor → (place : ℕ) → column (meta_cells r) place ≡ column (meta_row form owner cluster last floor) place
  cell r is place = ap (λ (row : Row). column row place) is

module _ (owner cluster : List ℕ) where
  abbrev params : Row
  params = Text owner ∷ Text cluster ∷ []

  abbrev insert : Command
  insert = Insert 0 (Values meta_terms 7)

  module _ (limit : Option ℕ) (mode : Mode) where
    named : (text : List ℕ) (db : Database) (tally : Tally) (after : Database) → db.schema ≡ log_schema → Does limit mode params db text None insert (Ok (tally, after))
        → (after.schema ≡ log_schema) × (after.trees 1 ≡ db.trees 1) × (db.trees 0 ≡ [] → after.trees 0 ≡ source newest_form owner cluster 0 0 ∷ [])
    named text db tally after has h =
        let done = went (subst (λ (s : Schema). Does limit mode params (record db { schema = s }) text None insert (Ok (tally, after))) has h) in
        let now = ap (λ (p : Tally × Database). p.1) (same_value (went (went done.2).2).2) in
        let given = went done.1 in
        let counted = went given.2 in
        let edits = went counted.2 in
        let last = went edits.2 in
        let trees : done.0.trees ≡ edits.0 = ap (λ (it : Written). it.trees) (same_value last.2) ∙ same_value last.1 in
        let put = one_step log_schema mode.keys db.trees edits.0 (edit_of db.trees meta_table [] Chosen 0 given.0) refl edits.1 in
        let at : (t : ℕ) → after.trees t ≡ edits.0 t = λ t. ap (λ (d : Database). d.trees t) now ∙ ap (λ (all : Trees). all t) trees in (
          ap (λ (d : Database). d.schema) now,
          at 1 ∙ put.tables.1.0 apart,
          λ empty. at 0 ∙ put.rows ∙ (λ i. put_all (empty i) (numbered Chosen (empty i) (map (λ (s : Row). cast_row meta_table (drop 0 s)) (given.1.1 i))))
              ∙ (λ i. put_all [] (numbered Chosen [] (cast_source newest_form owner cluster 0 0 i ∷ []))),
        )

  module _ (old new : State) (count : ℕ) (ready : IsReady old) (h : Executes meta_row_text params old new (Ok count)) where
    abbrev text_run : List ℕ
    text_run = statement_of meta_row_text (understood log_schema meta_row_text)

    ran : Writes old new None insert text_run params count
    ran = runs_as meta_row_text params old new log_schema ready.schema insert meta_row_is meta_row_plain count h

    did : (new.now.schema ≡ log_schema) × (new.now.trees 1 ≡ old.now.trees 1) × (old.now.trees 0 ≡ [] → new.now.trees 0 ≡ source newest_form owner cluster 0 0 ∷ [])
    did = named old.step_limit (mode_of old) text_run old.now ran.tally new.now ready.schema ran.changed

    pub name_ready : IsReady new
    name_ready =
        let done = commits old new insert text_run params count ran ready.autocommit in
        record { is_open = done.2; autocommit = done.0; settled = done.1; schema = did.0; sound = ran.sound }

    pub name_rows : new.now.trees 1 ≡ old.now.trees 1
    name_rows = did.1

    pub name_meta : old.now.trees 0 ≡ [] → map meta_cells (new.now.trees 0) ≡ meta_row newest_form owner cluster 0 0 ∷ []
    name_meta empty = ap (map meta_cells) (did.2 empty)

  -- what a crash leaves of it
  module _ (old : State) (ready : IsReady old) where
    abbrev pub NamedIn : Trees → Type 0
    NamedIn db = IsSound log_schema db × (db 1 ≡ old.now.trees 1) × (old.now.trees 0 ≡ [] → map meta_cells (db 0) ≡ meta_row newest_form owner cluster 0 0 ∷ [])

    abbrev text_left : List ℕ
    text_left = statement_of meta_row_text (understood log_schema meta_row_text)

    may_name : (db : Trees) → MayCommit old None insert text_left params db → NamedIn db
    may_name db (inl ends) = absurd (elim ends.0 [ inl commits ↦ cc | inr releases ↦ let is = releases.2 in cc ])
    may_name db (inr writes) =
        let did = named old.step_limit (mode_of old) text_left old.now writes.1 writes.2 ready.schema writes.3 in
        subst NamedIn (sym writes.5) (subst (λ (s : Schema). IsSound s writes.2.trees) did.0 writes.4, did.1, λ empty. ap (map meta_cells) (did.2 empty))

    pub names_in : (db : Trees) → CommitsBy meta_row_text params old db → NamedIn db
    unfolding CommitsBy
    names_in db h =
        let known = sym h.1.is ∙ ap (λ (s : Schema). understood s meta_row_text) ready.schema in
        let bare = subst IsPlain (sym known) meta_row_plain in
        may_name db (subst₂ (λ (k : Command) (t : List ℕ). MayCommit old None k t params db) (ap command_of known ∙ meta_row_is) (ap (statement_of meta_row_text) known) (rw (bare.0, bare.1) at h.2))
