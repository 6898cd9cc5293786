-- A table of floor 0: what it contains, and what a write does to it.
use Rattle.std.specs.Prelude.{◌≡◌, ℕ, ◌≤◌, Bool, ◌&&◌, not, nat_le, List, [], ◌∷◌, length}
use Rattle.sb_types.specs.declared.entry.Slot.{Slot}
use Rattle.sb_types.specs.declared.limits.TheConstants.{KEYS_MOST}
use Rattle.sb_types.specs.Records.{Entry, Table}
use Rattle.sb_types.specs.Runs.{IsRun, entries_after, has_key, last_version}

-- the table of these entries
abbrev pub plain_table : List Entry → Table
plain_table entries = record { held = last_version 0 entries; floor = 0; entries = entries }

-- ascending from version 1 on, one entry for each key, held up to the last, and at most 4,096
pub record IsPlainTable (t : Table) : Type 0 where
  pub run : IsRun 0 t.held t.entries
  pub floor : t.floor ≡ 0
  pub last : t.held ≡ last_version 0 t.entries
  pub limit : length t.entries ≤ KEYS_MOST

-- the table with the entry in place of its key's old one
abbrev pub with_entry : Table → Entry → Table
with_entry t e = record { held = e.version; floor = t.floor; entries = entries_after t.entries (e ∷ []) }

-- there is no room for this key: it is new, and there are 4,096 others
abbrev pub is_full_for : List ℕ → List Entry → Bool
is_full_for key entries = not (has_key key entries) && nat_le KEYS_MOST (length entries)

-- what a look-up returns of the entry that it finds
abbrev pub version_and_slot : Entry → ℕ × Slot
version_and_slot e = (e.version, e.slot)
