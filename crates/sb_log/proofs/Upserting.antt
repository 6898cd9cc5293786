-- What the upsert of a log does to its rows: where no row has the key a new one goes in, and else that row is changed.
use Rattle.std.proofs.Common.{◌≡◌, ◌⊎◌, inl, inr, ℕ, ℤ, List, [], ◌∷◌, ◌++◌, Bool, true, false, cond, Option, None, Some, Ok, refl, sym, ap, subst, ◌∙◌}
use Rattle.sqlite_value.specs.declared.value.Value.{Value}
use Rattle.sqlite_value.specs.declared.value.Value.TheVariants.{Null, Int}
use Rattle.sqlite_value.specs.Order.{Row}
use Rattle.sqlite_trees.specs.Tree.{Trees, rowid}
use Rattle.sqlite_sql.specs.Ops.{unary}
use Rattle.sqlite_schema.specs.declared.schema.Kind.TheVariants.{Integer}
use Rattle.sqlite_schema.specs.declared.schema.Schema.{Schema}
use Rattle.sqlite_schema.specs.declared.command.Command.TheVariants.{InsertOr}
use Rattle.sqlite_schema.specs.declared.command.Conflict.TheVariants.{Abort}
use Rattle.sqlite_schema.specs.declared.command.Source.TheVariants.{Values}
use Rattle.sqlite_rules.specs.declared.error.Refusal.{Refusal}
use Rattle.sqlite_rules.specs.declared.error.Rowids.TheVariants.{Given}
use Rattle.sqlite_rules.specs.Cast.{cast, cast_all, cast_row}
use Rattle.sqlite_rules.specs.Edit.{edit_of, with_rowid, next_rowid, Applies}
use Rattle.sqlite_rules.specs.Keys.{AreConflicts}
use Rattle.sqlite.specs.Does.{Tally, Does}
use Rattle.sqlite.specs.Effect.{Database}
use Rattle.sqlite.specs.Rows.{Task, Written, Judged, Upserts, Meets, Clears, Puts, Updates, TriesEach, nothing, count_of, rowids_for, shown}
use Rattle.sqlite.specs.declared.run.Mode.{Mode}
use Rattle.sqlite.proofs.Callers.{one_step}
use Rattle.sb_log.specs.Form.{log_schema, writes_table, writes_columns}
use Rattle.sb_log.proofs.Making.{went, same_value}
use Rattle.sb_log.proofs.Texts.{upsert_terms, on_key, update_program}

either : (b : Bool) (x : Value) → cond b x x ≡ x
either true x = refl
either false x = refl

pub cast_null : cast Integer Null ≡ Null
unfolding unary
cast_null = either _ Null

pub cast_int : (n : ℤ) → cast Integer (Int n) ≡ Int n
unfolding unary
cast_int n = either _ (Int n)

module _ (limit : Option ℕ) (mode : Mode) (a b c d e : Value) (fits : cast_all writes_columns (a ∷ b ∷ c ∷ d ∷ e ∷ []) ≡ a ∷ b ∷ c ∷ d ∷ e ∷ []) where
  abbrev pub params : Row
  params = a ∷ b ∷ c ∷ d ∷ e ∷ []

  abbrev pub task : Task
  task = record { limit = limit; keys = mode.keys; schema = log_schema; table = writes_table; params = params }

  -- the row that the statement would insert
  abbrev pub new_row : List Row → Row
  new_row rows = Int (next_rowid rows) ∷ params

  -- either the row goes in, or the row of the key is changed
  abbrev pub Leaves : Trees → Trees → Type 0
  Leaves db next =
      (AreConflicts (Some (1 ∷ [])) log_schema.indexes writes_table (db 1) (new_row (db 1)) []
      × Applies log_schema mode.keys db (edit_of db writes_table [] Given 0 (new_row (db 1) ∷ [])) next)
      ⊎ ((there : Row) × (more : List Row) × AreConflicts (Some (1 ∷ [])) log_schema.indexes writes_table (db 1) (new_row (db 1)) (there ∷ more)
      × (w : Written) × (w.trees ≡ next) × Updates task update_program (params ++ rowid there ∷ shown writes_table (new_row (db 1))) db (Ok w))

  judged : (new : Row) (db : Trees) (verdict : Option Refusal) (w : Written) → Judged task Abort (on_key ∷ []) new db verdict (Ok w) → Upserts task Abort new db (on_key ∷ []) (Ok w)
  judged new db None w h = h
  judged new db (Some why) w h = absurd (let same = h in cc)

  puts : (new : Row) (db : Trees) (w : Written) → Puts task new db (Ok w) → Applies log_schema mode.keys db (edit_of db writes_table [] Given 0 (new ∷ [])) w.trees
  puts new db w h =
      let put = went h in
      subst (Applies log_schema mode.keys db (edit_of db writes_table [] Given 0 (new ∷ []))) (sym (ap (λ (it : Written). it.trees) (same_value put.2)))
      (one_step log_schema mode.keys db put.0 (edit_of db writes_table [] Given 0 (new ∷ [])) refl put.1)

  clears : (new : Row) (db : Trees) (found : List Row) (w : Written) → Clears task Abort new db found (Ok w) → Puts task new db (Ok w)
  clears new db [] w h = h
  clears new db (x ∷ more) w h = h

  leaves : (db : Trees) (w : Written) → Upserts task Abort (new_row (db 1)) db (on_key ∷ []) (Ok w) → Leaves db w.trees
  leaves db w h = go h.0 h.1 h.2
    where
      go : (found : List Row) → AreConflicts (Some (1 ∷ [])) log_schema.indexes writes_table (db 1) (new_row (db 1)) found
          → Meets task (Upserts task Abort (new_row (db 1)) db []) (new_row (db 1)) db on_key found (Ok w) → Leaves db w.trees
      go [] none other = inl (none, puts (new_row (db 1)) db w (clears (new_row (db 1)) db other.0 w other.2))
      go (there ∷ more) some update = inr (there, more, some, w, refl, update)

  cast_new : cast_row writes_table (Null ∷ params) ≡ Null ∷ params
  cast_new = λ i. cast_null i ∷ fits i

  placed : (top : ℤ) (db : Trees) (verdict : Option Refusal) (w : Written)
      → Judged task Abort (on_key ∷ []) (with_rowid (rowids_for writes_table top) (db 1) (cast_row writes_table (Null ∷ params))) db verdict (Ok w)
      → Judged task Abort (on_key ∷ []) (new_row (db 1)) db verdict (Ok w)
  placed top db verdict w = subst (λ (row : Row). Judged task Abort (on_key ∷ []) (with_rowid (rowids_for writes_table top) (db 1) row) db verdict (Ok w)) cast_new

  -- of the whole statement
  pub upserted : (text : List ℕ) (db : Database) (tally : Tally) (after : Database) → db.schema ≡ log_schema
      → Does limit mode params db text None (InsertOr 1 Abort (Values upsert_terms 6) (on_key ∷ [])) (Ok (tally, after)) → (after.schema ≡ log_schema) × Leaves db.trees after.trees
  upserted text db tally after has h =
      let done = went (subst (λ (s : Schema). Does limit mode params (record db { schema = s }) text None (InsertOr 1 Abort (Values upsert_terms 6) (on_key ∷ [])) (Ok (tally, after))) has h) in
      let now = ap (λ (p : Tally × Database). p.1) (same_value (went (went done.2).2).2) in
      let given = went done.1 in
      let counted = went given.2 in
      let tried = went counted.2 in
      let last = went tried.2 in
      let trees : done.0.trees ≡ tried.0.0.trees = ap (λ (it : Written). it.trees) (same_value last.2) ∙ same_value last.1 in
      let each = went (subst (λ (rows : List Row). TriesEach task Abort (on_key ∷ []) rows (count_of counted.0) (nothing db.trees) (Ok tried.0)) given.1.1 tried.1) in
      let one : tried.0.0.trees ≡ each.0.trees = ap (λ (p : Written × ℤ). p.0.trees) (same_value each.2) in
      let left : Leaves db.trees each.0.trees = elim each.1 [
        | inl refused ↦ absurd (let same = refused.1 in cc)
        | inr judge ↦ leaves db.trees each.0 (judged (new_row (db.trees 1)) db.trees judge.0 each.0 (placed (count_of counted.0) db.trees judge.0 each.0 judge.2))
      ] in
      (ap (λ (d : Database). d.schema) now, subst (Leaves db.trees) (sym one ∙ sym trees ∙ sym (ap (λ (d : Database). d.trees) now)) left)
