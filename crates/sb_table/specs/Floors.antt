-- Tables with a floor, stages, and how a stage replaces the shown table.
use Rattle.std.specs.Prelude.{ℕ, ◌≤◌, Bool, ◌&&◌, ◌||◌, not, nat_lt, nat_le, nat_eq, if◌then◌else◌, List, [], ◌∷◌, ◌++◌, filter, length, Result, Ok, Err}
use Rattle.std.specs.Cmp.Lexicographic.{pointwise}
use Rattle.std.specs.List.{list_all}
use Rattle.sb_types.specs.declared.fault.Fault.{Fault}
use Rattle.sb_types.specs.declared.fault.Fault.TheVariants.{TableFull, LogDamaged}
use Rattle.sb_types.specs.declared.limits.TheConstants.{KEYS_MOST}
use Rattle.sb_types.specs.Records.{Entry, Table, Stage}
use Rattle.sb_types.specs.Runs.{IsRun, IsTable, newer_entries, entries_up_to, entries_with_keys, are_ascending, are_distinct, last_version, entries_after, is_set, live_entries}

-- a tombstone (the marker of a removed key) at or below the floor
abbrev pub is_dead : ℕ → Entry → Bool
is_dead floor e = not (is_set e.slot || nat_lt floor e.version)

-- the entries of other keys
abbrev pub entries_without_key : List ℕ → List Entry → List Entry
entries_without_key key entries = filter (λ entry. not (pointwise nat_eq entry.key key)) entries

-- the table after its held version and its floor rose: it has no tombstones up to the floor
abbrev pub table_at_floor : ℕ → ℕ → Table → Table
table_at_floor upto floor t = record { held = upto; floor = floor; entries = live_entries floor t.entries }

-- the stage after its progress rose
abbrev pub stage_at_progress : ℕ → Stage → Stage
stage_at_progress progress s = record { floor = s.floor; progress = progress; entries = s.entries }

-- the stage with the entry in place of its key's old one
abbrev pub stage_with_entry : Stage → Entry → Stage
stage_with_entry s e = record { floor = s.floor; progress = e.version; entries = entries_after s.entries (e ∷ []) }

-- the stage's entries above held, and for its other keys what was shown of them
abbrev pub merged_entries : ℕ → List Entry → List Entry → List Entry
merged_entries held staged shown = entries_with_keys (entries_up_to held staged) shown ++ newer_entries held staged

-- the table of the stage, as it is shown: without tombstones up to its floor
abbrev pub table_after_swap : Table → Stage → Table
table_after_swap t s = record { held = s.progress; floor = s.floor; entries = live_entries s.floor (merged_entries t.held s.entries t.entries) }

-- no entry is a tombstone at or below the floor
abbrev pub are_live : ℕ → List Entry → Bool
are_live floor entries = list_all (λ entry. not (is_dead floor entry)) entries

-- a table with this held version and this floor can have these entries, if there are not too many
abbrev pub are_table_entries : ℕ → ℕ → List Entry → Bool
are_table_entries upto floor entries =
    nat_le floor upto && ((are_ascending 0 entries && (nat_le (last_version 0 entries) upto && are_live floor entries)) && are_distinct entries)

-- the table of these entries, or why they cannot be a table
abbrev pub restored_table : ℕ → ℕ → List Entry → Result Table Fault
restored_table upto floor entries =
    if not (are_table_entries upto floor entries) then Err LogDamaged else (if nat_lt KEYS_MOST (length entries) then Err TableFull else Ok (record { held = upto; floor = floor; entries = entries }))

-- a table of at most 4,096 entries
pub record IsKeptTable (t : Table) : Type 0 where
  pub is : IsTable t
  pub limit : length t.entries ≤ KEYS_MOST

-- ascending from version 1 on, one entry for each key, none above the progress, and at most 4,096. Tombstones may be at
-- or below the floor
pub record IsKeptStage (s : Stage) : Type 0 where
  pub run : IsRun 0 s.progress s.entries
  pub limit : length s.entries ≤ KEYS_MOST
