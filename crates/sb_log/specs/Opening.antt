-- What a log's tables may hold where it is opened.
use Rattle.std.specs.Prelude.{◌≡◌, ◌≢◌, ◌⊎◌, ⊤, ℕ, pos, min, false, true, List, [], ◌∷◌, map}
use Rattle.sqlite_value.specs.declared.value.Value.TheVariants.{Int, Text}
use Rattle.sqlite_value.specs.Order.{Row, column}
use Rattle.sqlite_trees.specs.Tree.{Trees, rowid}
use Rattle.sqlite.specs.Effect.{Database}
use Rattle.sqlite_catalog.specs.Listing.{IsSound}
use Rattle.sb_types.specs.declared.fault.Fault.TheVariants.{NoMemory, LogDamaged, WrongOwner}
use Rattle.sb_types.specs.declared.limits.TheConstants.{VERSION_MOST}
use Rattle.sb_types.specs.Records.{Table}
use Rattle.sb_log.specs.Records.{Log}
use Rattle.sb_table.specs.Plain.{plain_table}
use Rattle.sb_log.specs.declared.cause.LogError.{LogError}
use Rattle.sb_log.specs.declared.cause.LogError.TheVariants.{Store, Fault}
use Rattle.sb_log.specs.declared.schema.Made.{Made}
use Rattle.sb_log.specs.declared.schema.Made.TheVariants.{Neither, Meta, Both}
use Rattle.sb_log.specs.Form.{newest_form, schema_with, log_schema}
use Rattle.sb_log.specs.Rows.{has_texts, last_in, floor_in, content_by, AreRowsOf, CanSay, Drops}

-- the rowid, form, owner, cluster, last and floor of a row of meta
abbrev pub meta_cells : Row → Row
meta_cells row = rowid row ∷ column row 2 ∷ column row 3 ∷ column row 4 ∷ column row 5 ∷ column row 6 ∷ []

-- of this form, with this last version and this floor
abbrev pub meta_row : ℕ → List ℕ → List ℕ → ℕ → ℕ → Row
meta_row form owner cluster last floor = Int (pos 1) ∷ Int (pos form) ∷ Text owner ∷ Text cluster ∷ Int (pos last) ∷ Int (pos floor) ∷ []

-- the one row says that it is this owner's log, of this cluster, in this form, with this last version and this floor
abbrev pub IsNamedIn : ℕ → List ℕ → List ℕ → ℕ → ℕ → List Row → Type 0
IsNamedIn form owner cluster last floor rows = map meta_cells rows ≡ meta_row form owner cluster last floor ∷ []

-- the forms that are read; the second is that of every log that was opened
abbrev pub IsForm : ℕ → Type 0
IsForm form = (form ≡ 1) ⊎ (form ≡ newest_form)

-- one of them, which has such content: the first has no texts
abbrev pub IsFormOf : ℕ → Table → Type 0
IsFormOf form content = ((form ≡ 1) × (has_texts content ≡ false)) ⊎ (form ≡ newest_form)

-- a row of a form that is read names another owner or another cluster
abbrev pub IsOthers : List ℕ → List ℕ → Row → Type 0
IsOthers owner cluster row = (form : ℕ) × IsForm form × (column row 0 ≡ Int (pos 1)) × (column row 1 ≡ Int (pos form)) × ((column row 2 ≢ Text owner) ⊎ (column row 3 ≢ Text cluster))

-- the same in a form that is read and has these entries, beside which both numbers can be said
abbrev pub IsNamed : List ℕ → List ℕ → Table → ℕ → ℕ → List Row → Type 0
IsNamed owner cluster table last floor rows = (form : ℕ) × IsFormOf form table × IsNamedIn form owner cluster last floor rows × CanSay last floor table.entries

-- it says so, and with the entries that have rows it is this content
abbrev pub IsSaid : List ℕ → List ℕ → Table → Table → List Row → Type 0
IsSaid owner cluster table content rows = (last : ℕ) × (floor : ℕ) × IsNamed owner cluster table last floor rows × (content ≡ content_by last floor table.entries)

-- it says so; or there is no row yet, and nothing beside it
abbrev pub IsMetaOf : List ℕ → List ℕ → Table → Table → List Row → Type 0
IsMetaOf owner cluster table content rows = ((rows ≡ []) × (table ≡ plain_table []) × (content ≡ plain_table [])) ⊎ IsSaid owner cluster table content rows

-- the rows of each table, and none of a table that is not there
abbrev pub meta_found : Made → Trees → List Row
meta_found Neither db = []
meta_found Meta db = db 0
meta_found Both db = db 0

abbrev pub writes_found : Made → Trees → List Row
writes_found Neither db = []
writes_found Meta db = []
writes_found Both db = db 1

-- nothing but a log's tables was found, of this owner and cluster, with the rows of this content
pub record Opens (owner cluster : List ℕ) (found : Database) (content : Table) : Type 0 where
  pub made : Made
  pub schema : found.schema ≡ schema_with made
  -- the entries that have rows, removals up to the floor too
  pub table : Table
  pub rows : AreRowsOf table (writes_found made found.trees)
  pub meta : IsMetaOf owner cluster table content (meta_found made found.trees)
  -- where the table of writes is missing, nothing says yet whose the log is
  pub whole : made ≡ Meta → meta_found made found.trees ≡ []

-- a log's tables were found, whose one row names another owner or another cluster
pub record NamesAnother (owner cluster : List ℕ) (found : Database) : Type 0 where
  pub schema : found.schema ≡ log_schema
  pub row : Row
  pub is_row : map meta_cells (found.trees 0) ≡ row ∷ []
  pub others : IsOthers owner cluster row

-- the tables that are missing are made, empty, and the second only where nothing says yet whose the log is
pub record Completes (found now : Database) : Type 0 where
  pub made : Made
  pub schema : found.schema ≡ schema_with made
  pub meta : now.trees 0 ≡ meta_found made found.trees
  pub rows : now.trees 1 ≡ writes_found made found.trees
  pub whole : made ≡ Meta → meta_found made found.trees ≡ []

-- what was found is there, and of the tables that were missing none, the first or both, empty
pub record Grows (found : Database) (db : Trees) : Type 0 where
  pub made : Made
  pub schema : found.schema ≡ schema_with made
  pub now : Made
  pub sound : IsSound (schema_with now) db
  pub meta : meta_found now db ≡ meta_found made found.trees
  pub rows : writes_found now db ≡ writes_found made found.trees

-- what was found is there, and both tables, and the row that says whose the log is, where there was none
pub record Names (owner cluster : List ℕ) (found : Database) (db : Trees) : Type 0 where
  pub made : Made
  pub schema : found.schema ≡ schema_with made
  pub none : meta_found made found.trees ≡ []
  pub sound : IsSound log_schema db
  pub meta : IsNamedIn newest_form owner cluster 0 0 (db 0)
  pub rows : db 1 ≡ writes_found made found.trees

-- the owner's log of these rows, which was whole and of form 1, is of form 2
pub record IsRaised (owner cluster : List ℕ) (metas rows : List Row) (db : Trees) : Type 0 where
  pub last : ℕ
  pub floor : ℕ
  pub table : Table
  pub was : AreRowsOf table rows
  pub fits : IsFormOf 1 table
  pub can : CanSay last floor table.entries
  pub older : IsNamedIn 1 owner cluster last floor metas
  pub sound : IsSound log_schema db
  pub meta : IsNamedIn newest_form owner cluster last floor (db 0)
  pub same : db 1 ≡ rows

-- the owner's log of these rows, which was whole, has none of removals up to the floor that it says, and is of form 2
pub record IsCleared (owner cluster : List ℕ) (metas rows : List Row) (db : Trees) : Type 0 where
  pub form : ℕ
  pub last : ℕ
  pub floor : ℕ
  pub table : Table
  pub was : AreRowsOf table rows
  pub fits : IsFormOf form table
  pub can : CanSay last floor table.entries
  pub said : IsNamedIn form owner cluster last floor metas
  pub sound : IsSound log_schema db
  pub meta : IsNamedIn newest_form owner cluster last floor (db 0)
  pub left : Drops floor rows (db 1)

-- an owner's log of these rows, which was whole, was accepted, in part or in whole
abbrev pub IsAccepted : List ℕ → List ℕ → List Row → List Row → Trees → Type 0
IsAccepted owner cluster metas rows db = IsRaised owner cluster metas rows db ⊎ IsCleared owner cluster metas rows db

-- what was found is there so
pub record Accepts (owner cluster : List ℕ) (found : Database) (db : Trees) : Type 0 where
  pub made : Made
  pub schema : found.schema ≡ schema_with made
  pub kept : IsAccepted owner cluster (meta_found made found.trees) (writes_found made found.trees) db

-- what an opening may commit
abbrev pub Founds : List ℕ → List ℕ → Database → Trees → Type 0
Founds owner cluster found db = Grows found db ⊎ (Names owner cluster found db ⊎ Accepts owner cluster found db)

-- the row that was found says in form 2 what it said, or there is one that says no last version and no floor, where there was none
pub record SaysStill (owner cluster : List ℕ) (found : Database) (now : Trees) : Type 0 where
  pub made : Made
  pub schema : found.schema ≡ schema_with made
  pub meta : IsNamedIn newest_form owner cluster (last_in (meta_found made found.trees)) (floor_in (meta_found made found.trees)) (now 0)

-- memory was missing, or the store failed
abbrev pub IsWant : LogError → Type 0
IsWant (Store cause) = ⊤
IsWant (Fault fault) = fault ≡ NoMemory

abbrev pub IsOpeningFault : LogError → Type 0
IsOpeningFault (Store cause) = ⊤
IsOpeningFault (Fault fault) = (fault ≡ NoMemory) ⊎ ((fault ≡ LogDamaged) ⊎ (fault ≡ WrongOwner))

-- whose log it is, and the greatest version that it gives
pub record IsOpenedAs (owner cluster : List ℕ) (max_version : ℕ) (log : Log) : Type 0 where
  pub owner_is : log.owner ≡ owner
  pub cluster_is : log.cluster ≡ cluster
  pub most : log.most ≡ min max_version VERSION_MOST
  pub is_open : log.is_open ≡ true
