-- Entries, tables, stages, blocks and settings, as plain data.
use Rattle.std.specs.Prelude.{ℕ, List, Option}
use Rattle.sb_types.specs.declared.entry.Slot.{Slot}
use Rattle.sb_types.specs.declared.settings.Order.{Order}

-- what an owner last wrote under a key, and the version of that write
pub record Entry : Type 0 where
  pub key : List ℕ
  pub version : ℕ
  pub slot : Slot

-- what is held of one owner: the held version, which is the greatest that is known, the purge floor, and the entries in
-- ascending version. Up to the floor there are no tombstones, the markers of removed keys
pub record Table : Type 0 where
  pub held : ℕ
  pub floor : ℕ
  pub entries : List Entry

-- what has arrived of a table that will replace the shown one
pub record Stage : Type 0 where
  pub floor : ℕ
  pub progress : ℕ
  pub entries : List Entry

-- a part of an owner's writes: those above after, up to upto
pub record Block : Type 0 where
  pub owner : List ℕ
  pub floor : ℕ
  pub after : ℕ
  pub upto : ℕ
  pub entries : List Entry

-- what a node holds of one owner
pub record Holder : Type 0 where
  pub shown : Table
  pub stage : Option Stage

pub record Settings : Type 0 where
  pub cluster : List ℕ
  pub budget : ℕ
  pub order : Order
  pub max_version : ℕ
  pub seats : ℕ
  pub workers : ℕ
