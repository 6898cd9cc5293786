-- What the statements that make a log's tables do.
use Rattle.sqlite_schema.specs.declared.command.Command.{Command}
use Rattle.sqlite_value.specs.Order.{Row}
use Rattle.std.proofs.Common.{Bool, cond, IsTrue, ◌≡◌, ◌⊎◌, inl, inr, ℕ, List, [], false, Option, None, Ok, Err, Result, sym, ap, subst, subst₂, ◌∙◌}
use Rattle.sqlite_schema.specs.declared.schema.Table.{Table}
use Rattle.sqlite_schema.specs.declared.schema.Schema.{Schema}
use Rattle.sqlite_schema.specs.declared.command.Command.TheVariants.{CreateTable}
use Rattle.sqlite_resolve.specs.Compile.{table_defined_by}
use Rattle.sqlite_catalog.specs.Change.{created, next_tree, KeepsRows}
use Rattle.sqlite_trees.specs.Tree.{Trees}
use Rattle.sqlite_catalog.specs.Listing.{IsSound}
use Rattle.sqlite.specs.declared.run.Mode.{Mode}
use Rattle.sqlite.specs.Does.{Tally, Does, lacks_sequence}
use Rattle.sqlite.specs.Effect.{Database}
use Rattle.sqlite.specs.Listing.{understood}
use Rattle.sqlite.specs.State.{State, Writes, Executes, MayCommit, CommitsBy, mode_of}
use Rattle.sqlite.proofs.Callers.{IsPlain, command_of, statement_of, runs_as}

pub went : {B E R : Type 0} {b : B} {Stops : E → Type 0} → ((stop : E) × Stops stop × (Ok b ≡ Err stop)) ⊎ R → R
went (inl stopped) = absurd (let e = stopped.2 in cc)
went (inr on) = on

pub same_value : {B E : Type 0} {a b : B} → ◌≡◌ {A = Result B E} (Ok a) (Ok b) → a ≡ b
same_value e = cc

-- a text that makes a table, under a schema that is known
module _ (text : List ℕ) (before after : Schema) (table : Table) (is : (command_of (understood before text) ≡ CreateTable) × (statement_of text (understood before text) ≡ text) × (table_defined_by text ≡ Ok table))
    (plain : IsPlain (understood before text)) (makes : created before table ≡ after) (uncounted : lacks_sequence after ≡ false) where
  made_by : (limit : Option ℕ) (mode : Mode) (tally : Tally) (old new : Database) → old.schema ≡ before → Does limit mode [] old text None CreateTable (Ok (tally, new))
      → (new.schema ≡ after) × (new.trees (next_tree before) ≡ []) × KeepsRows before.tables old.trees new.trees
  made_by limit mode tally old new has h =
      let all = went h in
      let first = went all.1 in
      let made = first.1 in
      let both : ◌≡◌ {A = Result Table _} (Ok made.table) (Ok table) = sym made.defined ∙ is.2 in
      let same : made.table ≡ table = same_value both in
      let schema : first.0.schema ≡ after = made.is ∙ ap (λ (s : Schema). created s made.table) has ∙ ap (created before) same ∙ makes in
      let uncounts : lacks_sequence first.0.schema ≡ false = ap lacks_sequence schema ∙ uncounted in
      let now : new ≡ first.0 = ap (λ (p : Tally × Database). p.1) (same_value all.2) ∙ same_value (rw uncounts at first.2) in (
        ap (λ (d : Database). d.schema) now ∙ schema,
        ap (λ (d : Database). d.trees (next_tree before)) now ∙ subst (λ (s : Schema). first.0.trees (next_tree s) ≡ []) has made.empty,
        subst (λ (d : Database). KeepsRows before.tables old.trees d.trees) (sym now) (subst (λ (s : Schema). KeepsRows s.tables old.trees first.0.trees) has made.others),
      )

  pub creates : (old new : State) (count : ℕ) → old.now.schema ≡ before → Executes text [] old new (Ok count)
      → (w : Writes old new None CreateTable text [] count) × (new.now.schema ≡ after) × (new.now.trees (next_tree before) ≡ []) × KeepsRows before.tables old.now.trees new.now.trees
  creates old new count has h =
      let w = subst (λ (t : List ℕ). Writes old new None CreateTable t [] count) is.1 (runs_as text [] old new before has CreateTable is.0 plain count h) in
      let made = made_by old.step_limit (mode_of old) w.tally old.now new.now has w.changed in
      (w, made.0, made.1, made.2)

  abbrev pub MadeIn : State → Trees → Type 0
  MadeIn old db = IsSound after db × (db (next_tree before) ≡ []) × KeepsRows before.tables old.now.trees db

  may_create : (old : State) (db : Trees) → old.now.schema ≡ before → MayCommit old None CreateTable text [] db → MadeIn old db
  may_create old db has (inl ends) = absurd (elim ends.0 [ inl commits ↦ cc | inr releases ↦ let is = releases.2 in cc ])
  may_create old db has (inr writes) =
      let made = made_by old.step_limit (mode_of old) writes.1 old.now writes.2 has writes.3 in
      subst (MadeIn old) (sym writes.5) (subst (λ (s : Schema). IsSound s writes.2.trees) made.0 writes.4, made.1, made.2)

  -- what a crash leaves of it
  pub creates_in : (old : State) (db : Trees) → old.now.schema ≡ before → CommitsBy text [] old db → MadeIn old db
  unfolding CommitsBy
  creates_in old db has h =
      let known = sym h.1.is ∙ ap (λ (s : Schema). understood s text) has in
      let bare = subst IsPlain (sym known) plain in
      may_create old db has (subst₂ (λ (k : Command) (t : List ℕ). MayCommit old None k t [] db) (ap command_of known ∙ is.0) (ap (statement_of text) known ∙ is.1) (rw (bare.0, bare.1) at h.2))

-- a write outside a transaction is committed
pub commits : (old new : State) (command : Command) (text : List ℕ) (params : Row) (count : ℕ) → Writes old new None command text params count → old.in_transaction ≡ false
    → (new.in_transaction ≡ false) × (new.now ≡ new.committed) × IsTrue new.is_open
commits old new command text params count w auto =
    (w.shown.mode ∙ auto, subst (λ (b : Bool). new.committed ≡ cond b old.committed new.now → new.now ≡ new.committed) (sym auto) (λ (is : new.committed ≡ new.now). sym is) w.shown.committed_is, w.shown.is_open)
