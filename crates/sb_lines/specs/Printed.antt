-- What `attrdir log` prints of a log, and `attrdir purge` of a purge.
use Rattle.std.specs.Prelude.{◌≡◌, ◌≢◌, ◌⊎◌, ℕ, List, [], ◌∷◌, ◌++◌, codes, decimal, Option, Result, Ok, Err}
use Rattle.std.specs.List.{flat_map}
use Rattle.std.specs.Io.KnownBytes.{Keeps}
use Rattle.sb_types.specs.declared.entry.Slot.{Slot}
use Rattle.sb_types.specs.declared.entry.Slot.TheVariants.{Set, Removed}
use Rattle.sb_types.specs.declared.fault.Fault.{Fault}
use Rattle.sb_types.specs.declared.fault.Fault.TheVariants.{NoMemory}
use Rattle.sb_types.specs.Records.{Entry, Table}
use Rattle.sb_types.specs.Value.{line_of}
use Rattle.sb_table.specs.Order.{by_key}
use Rattle.sb_frames.specs.declared.last_write.Outcome.{Outcome}
use Rattle.sb_frames.specs.Sending.{Sends, OnlyWhereFailed}
use Rattle.sb_log.specs.Records.{Log}
use Rattle.sb_log.specs.Puts.{Loads, Purges}

-- the two words of what stands under a key
abbrev pub slot_text : Slot → List ℕ
slot_text (Set value) = line_of value
slot_text Removed = codes "removed -"

-- owner, key, version and the two words, with spaces between, and the end of the line
abbrev pub entry_line : List ℕ → Entry → List ℕ
entry_line owner e = owner ++ 32 ∷ (e.key ++ 32 ∷ (decimal e.version ++ 32 ∷ (slot_text e.slot ++ 10 ∷ [])))

-- each entry in ascending key, and then the last version
abbrev pub log_text : List ℕ → Table → List ℕ
log_text owner t = flat_map (entry_line owner) (by_key t.entries) ++ (codes "last" ++ 32 ∷ (decimal t.held ++ 10 ∷ []))

-- a table that was loaded is printed, or so many of its first bytes; a fault of loading is passed on, with nothing printed
abbrev pub Prints : List ℕ → Result Table Fault → Option (List ℕ) → Option (List ℕ) → Result (Unit {0}) Fault → Type 0
Prints owner (Ok table) old new result = Sends old new (log_text owner table) result
Prints owner (Err fault) old new result = (result ≡ Err fault) × Keeps old new

-- what the log gives is printed, and of whose log it is
abbrev pub PrintsLog : Log → Log → Option (List ℕ) → Option (List ℕ) → Result (Unit {0}) Fault → Type 0
PrintsLog log log' old new result = (loaded : Result Table Fault) × Loads log loaded log' × Prints log.owner loaded old new result

-- the line of a purge: the floor that was asked for
abbrev pub purged_line : ℕ → List ℕ
purged_line floor = codes "purged" ++ 32 ∷ (decimal floor ++ 10 ∷ [])

-- of a purge that was made the line is printed, or so many of its first bytes, where the last write failed, and no memory is said to have been
-- wanting; a fault of it is passed on, with nothing printed
abbrev pub PrintsPurge : ℕ → Result (Unit {0}) Fault → Option (List ℕ) → Option (List ℕ) → Result (Unit {0}) Fault → Outcome → Type 0
PrintsPurge floor (Ok u) old new result last = Sends old new (purged_line floor) result × OnlyWhereFailed result last × (result ≢ Err NoMemory)
PrintsPurge floor (Err fault) old new result last = (result ≡ Err fault) × Keeps old new

-- the log is purged, and that is printed; or there was no memory for the line, and nothing changed
abbrev pub PurgesAndPrints : ℕ → Log → Log → Option (List ℕ) → Option (List ℕ) → Result (Unit {0}) Fault → Outcome → Type 0
PurgesAndPrints floor log log' old new result last =
    ((purged : Result (Unit {0}) Fault) × Purges log floor purged log' × PrintsPurge floor purged old new result last)
    ⊎ ((result ≡ Err NoMemory) × (log' ≡ log) × Keeps old new)
