-- What a call on the database of a log does to it. All but one of these facts are said while the disk keeps its promise.
use Rattle.std.specs.Prelude.{◌≡◌, ◌≤◌, ◌⊎◌, false, [], ◌∷◌, map, Result, OnOk}
use Rattle.sqlite_value.specs.Order.{Row}
use Rattle.sqlite_schema.specs.declared.schema.Schema.{Schema}
use Rattle.sqlite_trees.specs.declared.store.Store.{Ghosts}
use Rattle.sqlite_trees.specs.Tree.{Trees}
use Rattle.sqlite_trees.specs.View.{doubt}
use Rattle.sqlite.specs.Held.{Held, state}
use Rattle.sqlite.specs.Effect.{IsDatabase}
use Rattle.sqlite.specs.State.{State, HasCleanDisk}
use Rattle.sqlite_catalog.specs.Listing.{IsSound}
use Rattle.sb_log.specs.Form.{log_schema}
use Rattle.sb_log.specs.Opening.{meta_cells}
use Rattle.sb_log.specs.Standing.{IsReady, IsPrepared}

-- a crash leaves what it could leave before the call, or what the call commits
abbrev pub Leaves : State → State → (Trees → Type 0) → Type 0
Leaves old new Commits = (db : Trees) → new.may_leave db → old.may_leave db ⊎ Commits db

-- a crash leaves what it could leave before the call
abbrev pub LeavesSame : State → State → Type 0
LeavesSame old new = (db : Trees) → new.may_leave db → old.may_leave db

-- the log is ready, and shows what it showed
abbrev pub StaysReady : State → State → Type 0
StaysReady old new = IsReady new × (new.now ≡ old.now)

module _ {S : Type 0} (g : Ghosts S) (old new : Held S) where
  -- a disk that broke its promise is not trusted again
  abbrev pub KeepsDoubt : Type 0
  KeepsDoubt = doubt (state g old).is_clean ≤ doubt (state g new).is_clean

  -- this holds of the states before and after the call
  abbrev pub AfterAny : (State → State → Type 0) → Type 0
  AfterAny Says = HasCleanDisk (state g new) → Says (state g old) (state g new)

  -- the same if the database had this schema
  abbrev pub AfterSchema : Schema → (State → State → Type 0) → Type 0
  AfterSchema schema Says = HasCleanDisk (state g new) → (state g old).now.schema ≡ schema → Says (state g old) (state g new)

  -- the same if the log's tables were there, before anything was read
  abbrev pub AfterPrepared : (State → State → Type 0) → Type 0
  AfterPrepared Says = HasCleanDisk (state g new) → IsPrepared (state g old) → Says (state g old) (state g new)

  -- the same if the log was ready
  abbrev pub AfterReady : (State → State → Type 0) → Type 0
  AfterReady Says = HasCleanDisk (state g new) → IsReady (state g old) → Says (state g old) (state g new)

  -- the same if the log was ready, and this was its row of meta
  abbrev pub AfterRow : Row → (State → State → Type 0) → Type 0
  AfterRow row Says = AfterReady (λ before after. map meta_cells (before.now.trees 0) ≡ row ∷ [] → Says before after)

  -- A statement changes the tables of a log that was ready, and commits that. If it answers, the log is ready, and changed so. A crash leaves the
  -- log as it was, or changed so.
  pub record Commits {A E : Type 0} (result : Result A E) (Changes : Trees → Trees → Type 0) : Type 0 where
    pub ready : AfterReady (λ _ after. OnOk result (IsReady after))
    pub changes : AfterReady (λ before after. OnOk result (Changes before.now.trees after.now.trees))
    pub crash : AfterReady (λ before after. Leaves before after (λ db. IsSound log_schema db × Changes before.now.trees db))

  -- A statement makes tables in a database of the first schema. If it answers, the database has the second one, and is changed so. Outside a
  -- transaction that is committed.
  pub record Makes {A E : Type 0} (was becomes : Schema) (result : Result A E) (Changes : Trees → Trees → Type 0) : Type 0 where
    pub schema : AfterSchema was (λ _ after. OnOk result (after.now.schema ≡ becomes))
    pub changes : AfterSchema was (λ before after. OnOk result (Changes before.now.trees after.now.trees))
    pub sound : AfterSchema was (λ _ after. OnOk result (IsDatabase after.now))
    pub settled : AfterSchema was (λ before after. before.in_transaction ≡ false → OnOk result ((after.in_transaction ≡ false) × (after.now ≡ after.committed)))
