-- Which entries of a block the log of its owner never gave, by what the owner's own table has.
use Rattle.std.specs.Prelude.{◌≡◌, ℕ, ◌≤◌, ◌<◌, true, false, List, ◌∷◌, ◌++◌, ◌⊎◌, length}
use Rattle.sb_types.specs.declared.entry.Write.{Write}
use Rattle.sb_types.specs.Records.{Entry, Table}
use Rattle.sb_types.specs.Runs.{Stands, IsTable, has_key, is_set}
use Rattle.sb_types.specs.Writes.{Holds}
use Rattle.sb_audit.specs.declared.foreign.Reason.{Reason}
use Rattle.sb_audit.specs.declared.foreign.Reason.TheVariants.{AheadOfLog, OtherSlot, OtherKey, LaterWrite, EarlierWrite, UnknownKey}

-- the owner's own table: it holds all writes that the log gave
pub record IsOwn (writes : List Write) (t : Table) : Type 0 where
  pub table : IsTable t
  pub holds : Holds writes t
  pub all : t.held ≡ length writes

-- why the log of this table never gave the entry, which is in a block that reaches up to upto
abbrev pub Explains : Table → ℕ → Entry → Reason → Type 0
Explains t upto e AheadOfLog = t.held < e.version
Explains t upto e OtherSlot = (own : Entry) × Stands t.entries own × (own.version ≡ e.version) × (own.key ≡ e.key) × (own.slot ≡ e.slot → ⊥)
Explains t upto e OtherKey = (own : Entry) × Stands t.entries own × (own.version ≡ e.version) × (own.key ≡ e.key → ⊥)
-- the last write of its key is an earlier one
Explains t upto e LaterWrite = (own : Entry) × Stands t.entries own × (own.key ≡ e.key) × (own.version < e.version)
-- the last write of its key is a later one, which the block would have in its place
Explains t upto e EarlierWrite = (own : Entry) × Stands t.entries own × (own.key ≡ e.key) × (e.version < own.version) × (own.version ≤ upto)
-- if the key was ever written, its last write is a removal at or below the floor
Explains t upto e UnknownKey = (has_key e.key t.entries ≡ false) × ((t.floor < e.version) ⊎ ((is_set e.slot ≡ true) × (t.floor ≤ upto)))

abbrev pub IsForeign : Table → ℕ → Entry → Type 0
IsForeign t upto e = (reason : Reason) × Explains t upto e reason

-- the order of the reasons
abbrev pub place_of : Reason → ℕ
place_of AheadOfLog = 0
place_of OtherSlot = 1
place_of OtherKey = 2
place_of LaterWrite = 3
place_of EarlierWrite = 4
place_of UnknownKey = 5

-- the reason explains it, and none before this reason does
pub record IsReason (t : Table) (upto : ℕ) (e : Entry) (reason : Reason) : Type 0 where
  pub explains : Explains t upto e reason
  pub first : (other : Reason) → place_of other < place_of reason → Explains t upto e other → ⊥

-- the first of the entries that is such
pub record IsFirst (Such : Entry → Type 0) (entries : List Entry) (e : Entry) : Type 0 where
  pub before : List Entry
  pub behind : List Entry
  pub parts : entries ≡ before ++ e ∷ behind
  pub such : Such e
  pub first : (x : Entry) → Stands before x → Such x → ⊥
