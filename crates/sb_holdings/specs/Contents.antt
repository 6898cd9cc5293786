-- All writes of an owner, as the table that its log contains.
use Rattle.std.specs.Prelude.{ℕ, ◌+◌, if◌then◌else◌, List, [], ◌∷◌, length}
use Rattle.sb_types.specs.declared.entry.Write.{Write}
use Rattle.sb_types.specs.Records.{Entry, Table}
use Rattle.sb_types.specs.Runs.{has_key, live_entries}

-- the write as the entry of this version
abbrev pub entry_of_write : ℕ → Write → Entry
entry_of_write version w = record { key = w.key; version = version; slot = w.slot }

-- the writes as entries, numbered from the version after this one
abbrev pub entries_of_writes : ℕ → List Write → List Entry
entries_of_writes version [] = []
entries_of_writes version (w ∷ ws) = entry_of_write (version + 1) w ∷ entries_of_writes (version + 1) ws

-- the last entry of each key
abbrev pub last_each : List Entry → List Entry
last_each [] = []
last_each (e ∷ es) = if has_key e.key es then last_each es else e ∷ last_each es

-- the content of a log of these writes that is purged up to the floor
abbrev pub content_table : ℕ → List Write → Table
content_table floor writes = record { held = length writes; floor = floor; entries = live_entries floor (last_each (entries_of_writes 0 writes)) }
