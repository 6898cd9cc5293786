-- What is true of an owner's writes.
use Rattle.std.specs.Prelude.{◌≡◌, ℕ, ◌≤◌, ◌<◌, ◌-◌, List, length, ◌⊎◌, Some, IfSome, slice_get}
use Rattle.sb_types.specs.declared.entry.Slot.TheVariants.{Removed}
use Rattle.sb_types.specs.declared.entry.Write.{Write}
use Rattle.sb_types.specs.Records.{Entry, Table, Stage, Block, Holder}
use Rattle.sb_types.specs.Runs.{Stands, IsRun, IsTable}

-- the entry is the write of its version, counted from 1
pub record Written (writes : List Write) (e : Entry) : Type 0 where
  pub counted : 1 ≤ e.version
  pub found : slice_get writes (e.version - 1) ≡ Some (record { key = e.key; slot = e.slot })

-- a later write has its key
abbrev pub Superseded : List Write → Entry → Type 0
Superseded writes e = (later : Entry) × Written writes later × (later.key ≡ e.key) × (e.version < later.version)

-- a tombstone (the marker of a removed key) that a log may drop: its version is at or below the floor
abbrev pub Gone : ℕ → Entry → Type 0
Gone floor e = (e.slot ≡ Removed) × (e.version ≤ floor)

-- The entries include every write above after, up to upto, except superseded ones and tombstones at or below the floor.
pub record Tells (writes : List Write) (floor after upto : ℕ) (entries : List Entry) : Type 0 where
  pub reach : upto ≤ length writes
  pub reach_floor : floor ≤ length writes
  pub true_each : (e : Entry) → Stands entries e → Written writes e
  pub whole : (e : Entry) → Written writes e → after < e.version → e.version ≤ upto → Stands entries e ⊎ (Superseded writes e ⊎ Gone floor e)
  -- if an entry is older than a tombstone of its key that may be dropped, that key was written again after the
  -- tombstone
  pub past : (e x : Entry) → Written writes e → Gone floor e → Stands entries x → x.key ≡ e.key → x.version < e.version → Superseded writes e

-- the table has what its held version and its floor promise of the writes
abbrev pub Holds : List Write → Table → Type 0
Holds writes t = Tells writes t.floor 0 t.held t.entries

abbrev pub HoldsStage : List Write → Stage → Type 0
HoldsStage writes s = Tells writes s.floor 0 s.progress s.entries

-- the block has every write above after, up to upto, except superseded ones and tombstones at or below the floor
abbrev pub Honest : List Write → Block → Type 0
Honest writes b = Tells writes b.floor b.after b.upto b.entries

-- the shown table of an owner, and its stage, whose floor is above the table's held version
pub record IsHolder (h : Holder) : Type 0 where
  pub shown : IsTable h.shown
  pub stage : IfSome h.stage (λ s. IsRun 0 s.progress s.entries × (h.shown.held < s.floor))

pub record HolderHolds (writes : List Write) (h : Holder) : Type 0 where
  pub shown : Holds writes h.shown
  pub stage : IfSome h.stage (HoldsStage writes)
