-- How a log's connection stands.
use Rattle.std.specs.Prelude.{◌≡◌, ℕ, Bool, true, false, List, IsTrue}
use Rattle.sqlite_trees.specs.declared.store.Store.{Ghosts}
use Rattle.sqlite_trees.specs.Tree.{Trees}
use Rattle.sqlite.specs.Held.{Held, state}
use Rattle.sqlite.specs.Effect.{IsDatabase}
use Rattle.sqlite.specs.State.{State, HasCleanDisk}
use Rattle.sqlite_catalog.specs.Listing.{IsSound}
use Rattle.sb_types.specs.Records.{Entry, Table}
use Rattle.sb_table.specs.Plain.{plain_table}
use Rattle.sb_table.specs.Floors.{IsKeptTable}
use Rattle.sb_log.specs.Form.{newest_form, log_schema}
use Rattle.sb_log.specs.Rows.{AreRowsOf, CanSay, content_by, content_of}
use Rattle.sb_log.specs.Opening.{IsNamed, IsNamedIn}

-- it has the tables of a log, and all that it shows is committed
pub record IsReady (s : State) : Type 0 where
  pub is_open : IsTrue s.is_open
  pub autocommit : s.in_transaction ≡ false
  pub settled : s.now ≡ s.committed
  pub schema : s.now.schema ≡ log_schema
  pub sound : IsDatabase s.now

-- the same, as far as it is known before anything was read
pub record IsPrepared (s : State) : Type 0 where
  pub autocommit : s.in_transaction ≡ false
  pub settled : IsTrue s.is_open → s.now ≡ s.committed
  pub schema : s.now.schema ≡ log_schema
  pub sound : IsTrue s.is_open → IsDatabase s.now

-- the tables say whose log it is, in form 2, and their rows, which are these entries, are with the last version and the floor that they say this content
pub record HoldsContent (owner cluster : List ℕ) (content : Table) (entries : List Entry) (db : Trees) : Type 0 where
  pub last : ℕ
  pub named : IsNamedIn newest_form owner cluster last content.floor (db 0)
  pub can : CanSay last content.floor entries
  pub rows : AreRowsOf (plain_table entries) (db 1)
  pub table : IsKeptTable content
  pub is : content ≡ content_by last content.floor entries

-- while the log stands, its tables hold this content, and no rows but those of its entries
abbrev pub IsKept : {S : Type 0} → Ghosts S → List ℕ → List ℕ → Held S → Table → Bool → Type 0
IsKept g owner cluster conn table is_open =
    is_open ≡ true → HasCleanDisk (state g conn) → IsReady (state g conn) × HoldsContent owner cluster table table.entries (state g conn).now.trees

-- who opens these tables as the owner's log finds the content of their rows; where the tables are not a log's, don't say whose they are, say a
-- last version or a floor that no log of such rows can say, or have rows of no table or of a form that has no such rows, no opening accepts
-- them, and there is no telling what is found
abbrev pub Finds : List ℕ → List ℕ → Trees → Table → Type 0
Finds owner cluster db content = (last floor : ℕ) (t : Table) → IsSound log_schema db → IsNamed owner cluster t last floor (db 0) → AreRowsOf t (db 1) → content ≡ content_of (db 0) (db 1)

-- who opens it after a crash at this moment may find the content
abbrev pub MayLeave : {S : Type 0} → Ghosts S → List ℕ → List ℕ → Held S → Table → Type 0
MayLeave g owner cluster conn content = (db : Trees) × (state g conn).may_leave db × Finds owner cluster db content
