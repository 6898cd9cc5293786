-- What a block that joins on leaves of its owner.
use Rattle.std.specs.Prelude.{◌≡◌, ℕ, ◌≤◌, List, take, ◌⊎◌, None, IsSomeAnd}
use Rattle.sb_types.specs.Records.{Entry, Table, Stage, Block, Holder}
use Rattle.sb_types.specs.Runs.{Stands, newer_entries, last_version}
use Rattle.sb_types.specs.Writes.{Gone}
use Rattle.sb_holdings.specs.declared.ends.BlockEnd.{BlockEnd}
use Rattle.sb_holdings.specs.declared.ends.BlockEnd.TheVariants.{Own, OwnAhead, Gap, Stale, OwnersFull, Taken, TooManyKeys, NoMemory}
use Rattle.sb_holdings.specs.Held.{shown_of}
use Rattle.sb_holdings.specs.Nodes.{Node, held_by}

-- the new table has each of these entries. Its held version is that of the last, or the old one if there are none
pub record HasFront (old : Table) (front : List Entry) (new : Table) : Type 0 where
  pub held : new.held ≡ last_version old.held front
  pub each : (e : Entry) → Stands front e → Stands new.entries e

-- the first n of the block's entries above the held version, and no more
abbrev pub IsFrontTaken : Node → Block → ℕ → Node → Type 0
IsFrontTaken old b n new =
    let t = shown_of old.held b.owner in
    HasFront t (take n (newer_entries t.held b.entries)) (shown_of new.held b.owner)

-- the new table has reached the block's upto, and has each of its entries above the old held version
pub record HasAll (old : Table) (b : Block) (new : Table) : Type 0 where
  pub held : b.upto ≤ new.held
  pub each : (e : Entry) → Stands (newer_entries old.held b.entries) e → Stands new.entries e

-- if there is no room for its owner, nothing changes. If there is none for its next entry, the ones before are taken.
-- Else all of it is taken. It ends in no other way
abbrev pub IsTakenUp : Node → Block → BlockEnd → Node → Type 0
IsTakenUp old b OwnersFull new = new ≡ old
IsTakenUp old b (TooManyKeys n) new = IsFrontTaken old b n new
IsTakenUp old b (NoMemory n) new = IsFrontTaken old b n new
IsTakenUp old b (Taken n) new = HasAll (shown_of old.held b.owner) b (shown_of new.held b.owner)
IsTakenUp old b Own new = ⊥
IsTakenUp old b (OwnAhead upto) new = ⊥
IsTakenUp old b Gap new = ⊥
IsTakenUp old b Stale new = ⊥

-- ---- by a stage

-- the new stage has each of these entries. Its progress is the version of the last, or the old one if there are none
pub record HasStageFront (old : Stage) (front : List Entry) (new : Stage) : Type 0 where
  pub floor : new.floor ≡ old.floor
  pub progress : new.progress ≡ last_version old.progress front
  pub each : (e : Entry) → Stands front e → Stands new.entries e

-- the new stage has reached the block's upto, and has each of its entries above the old progress
pub record HasStageAll (old : Stage) (b : Block) (new : Stage) : Type 0 where
  pub floor : new.floor ≡ old.floor
  pub progress : new.progress ≡ b.upto
  pub each : (e : Entry) → Stands (newer_entries old.progress b.entries) e → Stands new.entries e

-- the stage replaced the table, which now reaches the block's upto and has the stage's floor. It has each of the
-- block's entries above the old held version and the old progress, except tombstones (markers of removed keys) up to
-- the floor
pub record IsShown (old : Holder) (s : Stage) (b : Block) (new : Holder) : Type 0 where
  pub none : new.stage ≡ None
  pub held : new.shown.held ≡ b.upto
  pub floor : new.shown.floor ≡ s.floor
  pub each : (e : Entry) → Stands (newer_entries old.shown.held (newer_entries s.progress b.entries)) e → Stands new.shown.entries e ⊎ Gone s.floor e

-- the shown table stays, and the stage has the first n of the block's entries above the old progress, and no more. If n
-- is 0, nothing changes
abbrev pub IsFrontStaged : Holder → Stage → Block → ℕ → Holder → Type 0
IsFrontStaged old s b n new = (new.shown ≡ old.shown) × (((n ≡ 0) × (new ≡ old)) ⊎ IsSomeAnd new.stage (HasStageFront s (take n (newer_entries s.progress b.entries))))

-- what becomes of a block that joins this stage. If there is no room for its owner, nothing changes. If there is none
-- for its next entry, the ones before are taken. If there is no memory for the swap, the table stays, and there is no
-- stage. Else all of it is taken, by the stage, or by the table that the stage becomes. It ends in no other way
abbrev pub IsStagedUp : Node → Block → Stage → BlockEnd → Node → Type 0
IsStagedUp old b s OwnersFull new = new ≡ old
IsStagedUp old b s (TooManyKeys n) new = IsFrontStaged (held_by old b.owner) s b n (held_by new b.owner)
IsStagedUp old b s (NoMemory n) new =
    let h = held_by old b.owner in
    let k = held_by new b.owner in
    IsFrontStaged h s b n k ⊎ ((k.shown ≡ h.shown) × (k.stage ≡ None))
IsStagedUp old b s (Taken n) new =
    let h = held_by old b.owner in
    let k = held_by new b.owner in
    ((k.shown ≡ h.shown) × IsSomeAnd k.stage (HasStageAll s b)) ⊎ IsShown h s b k
IsStagedUp old b s Own new = ⊥
IsStagedUp old b s (OwnAhead upto) new = ⊥
IsStagedUp old b s Gap new = ⊥
IsStagedUp old b s Stale new = ⊥
