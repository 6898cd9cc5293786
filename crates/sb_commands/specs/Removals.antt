-- Which removals of a log go.
use Rattle.std.specs.Prelude.{◌≡◌, ◌≢◌, ◌⊎◌, ◌<◌, ◌≤◌, ℕ, not, true, List, length, Option, Result, Err}
use Rattle.std.specs.List.{filter}
use Rattle.std.specs.Io.KnownBytes.{Keeps}
use Rattle.sb_types.specs.Records.{Entry, Table}
use Rattle.sb_types.specs.Runs.{is_set}
use Rattle.sb_types.specs.declared.fault.Fault.{Fault}
use Rattle.sb_frames.specs.declared.last_write.Outcome.{Outcome}
use Rattle.sb_log.specs.Records.{Log}
use Rattle.sb_types.specs.declared.fault.Fault.TheVariants.{StoreFailed}
use Rattle.sb_log.specs.Puts.{Gives, FailsToLoad, RefusesFloor, content_after_purge}
use Rattle.sb_lines.specs.Printed.{PurgesAndPrints}
use Rattle.sb_commands.specs.declared.log_file.Floor.{Floor}
use Rattle.sb_commands.specs.declared.log_file.Floor.TheVariants.{At, Last}
use Rattle.sb_commands.specs.declared.log_file.StartPurge.{StartPurge}
use Rattle.sb_commands.specs.declared.log_file.StartPurge.TheVariants.{Few, Dropped, Failed}

-- how many keys are removed ones
abbrev pub removals_in : List Entry → ℕ
removals_in entries = length (filter (λ e. not (is_set e.slot)) entries)

-- up to which version a purge goes
abbrev pub floor_of : Floor → Table → ℕ
floor_of (At version) content = version
floor_of Last content = content.held

-- why removals stay: the log is not read, or, where it was, its floor is not raised to its last version, though its store stands
abbrev pub FailsToDrop : Log → Fault → Log → Type 0
FailsToDrop old fault new =
    FailsToLoad old fault new ⊎ ((read : Log) × (table : Table) × Gives old table read × RefusesFloor read table.held fault new × (fault ≢ StoreFailed))

-- what becomes of the removals of a log that is to keep fewer than so many: there are fewer, or none counts; all are dropped; or the store
-- fails, which closes the log, and the table is what was read of it before
abbrev pub IsPurged : ℕ → Log → StartPurge → Log → Type 0
IsPurged least old Few new =
    new.is_clean ≡ true → (new.content ≡ old.content) × ((least ≡ 0) ⊎ (removals_in old.content.entries < least))
IsPurged least old (Dropped p) new =
    new.is_clean ≡ true → (least ≤ p.removals) × (p.removals ≡ removals_in old.content.entries) × (p.floor ≡ old.content.held) × (new.content ≡ content_after_purge p.floor old.content)
IsPurged least old (Failed table) new =
    (least ≤ removals_in table.entries) × ((read : Log) × Gives old table read × RefusesFloor read table.held StoreFailed new)

-- a purge up to a version, which prints it
abbrev pub PurgesUpTo : ℕ → Log → Option (List ℕ) → Result (Unit {0}) Fault → Log → Option (List ℕ) → Type 0
PurgesUpTo version old before result new after = (last : Outcome) × PurgesAndPrints version old new before after result last

-- up to the version that is given; or, where the log is read, up to its last one, and else nothing is printed
abbrev pub PurgesTo : Floor → Log → Option (List ℕ) → Result (Unit {0}) Fault → Log → Option (List ℕ) → Type 0
PurgesTo (At version) old before result new after = PurgesUpTo version old before result new after
PurgesTo Last old before result new after =
    ((fault : Fault) × (result ≡ Err fault) × FailsToLoad old fault new × Keeps before after)
    ⊎ ((read : Log) × (table : Table) × Gives old table read × PurgesUpTo table.held read before result new after)
