-- What is true of an owner's writes, defined version by version.
use Rattle.std.specs.Prelude.{◌≡◌, ℕ, zero, suc, ◌≤◌, ◌<◌, List, length, ◌⊎◌, Option, Some, None, slice_get}
use Rattle.sb_types.specs.declared.entry.Slot.TheVariants.{Removed}
use Rattle.sb_types.specs.declared.entry.Write.{Write}
use Rattle.sb_types.specs.Records.{Entry}
use Rattle.sb_types.specs.Runs.{Stands}

-- the write of a version, counted from 1
abbrev pub write_of : List Write → ℕ → Option Write
write_of writes zero = None
write_of writes (suc n) = slice_get writes n

-- a later write has the same key as the write of this version
pub record SupersededAt (writes : List Write) (version : ℕ) : Type 0 where
  pub later : ℕ
  pub write : Write
  pub new : Write
  pub order : version < later
  pub old_is : write_of writes version ≡ Some write
  pub new_is : write_of writes later ≡ Some new
  pub key : new.key ≡ write.key

-- a tombstone (the marker of a removed key) up to the floor, not superseded
pub record GoneAt (writes : List Write) (floor version : ℕ) : Type 0 where
  pub last : SupersededAt writes version → ⊥
  pub write : Write
  pub write_is : write_of writes version ≡ Some write
  pub removed : write.slot ≡ Removed
  pub under : version ≤ floor

-- for each version in the range, its write is among the entries, or was superseded, or is a tombstone that may be
-- dropped
pub record TellsByVersion (writes : List Write) (floor after upto : ℕ) (entries : List Entry) : Type 0 where
  pub reach : upto ≤ length writes
  pub reach_floor : floor ≤ length writes
  pub true_each : (e : Entry) → Stands entries e → write_of writes e.version ≡ Some (record { key = e.key; slot = e.slot })
  pub whole : (version : ℕ) → after < version → version ≤ upto → ((e : Entry) × Stands entries e × (e.version ≡ version)) ⊎ (SupersededAt writes version ⊎ GoneAt writes floor version)
  -- of the key of a tombstone that may be dropped, the entries contain at most that tombstone
  pub past : (version : ℕ) (gone : GoneAt writes floor version) (x : Entry) → Stands entries x → x.key ≡ gone.write.key → x.version ≡ version
