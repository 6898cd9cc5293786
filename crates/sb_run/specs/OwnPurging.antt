-- What comes of a purge of a node's own table, and of its log.
use Rattle.std.specs.Prelude.{◌≡◌, ◌⊎◌, ℕ, ◌+◌, ◌/◌, max, Bool, ◌&&◌, ◌||◌, nat_eq, nat_lt, nat_le, if◌then◌else◌, Option, Some, None, Ok, Err}
use Rattle.sb_types.specs.declared.fault.Fault.{Fault}
use Rattle.sb_holdings.specs.Nodes.{Node}
use Rattle.sb_log.specs.Records.{Committed, Log}
use Rattle.sb_log.specs.Puts.{Purges as LogPurges}
use Rattle.sb_directory.specs.Seats.{Seat, Begins, Refuses, with_last_call}
use Rattle.sb_directory.specs.Serving.{IsStill, IsLater}
use Rattle.sb_directory.specs.Purging.{Purges, purge_due_after}
use Rattle.sb_run.specs.OwnWriting.{count_owed, IsHandedIn, IsHeldBack}

-- what was owed was handed in, after which the seat is this one
pub record HandsIn (opening : Node) (before : Seat) (owed : Option Committed) (handed : Seat) : Type 0 where
  pub event : IsHandedIn opening before owed handed
  pub later : IsLater before handed
  pub events : handed.events ≡ before.events + count_owed owed

-- then the directory purged the own table up to this version, or none was due
pub record IsPurge (opening : Node) (least : ℕ) (before : Seat) (owed : Option Committed) (answer : Option ℕ) (after : Seat) : Type 0 where
  pub handed : Seat
  pub hands : HandsIn opening before owed handed
  pub purges : Purges opening least handed answer after

-- the log took the floor up to which the directory purged, or was not asked
abbrev pub IsLogPurged : {L : Type 0} → (L → Log) → L → Option ℕ → L → Type 0
IsLogPurged seen old None new = new ≡ old
IsLogPurged seen old (Some floor) new = LogPurges (seen old) floor (Ok tt) (seen new)

-- what was owed was handed in, and then the directory refused to purge, after the history of the seat's last call
pub record IsPurgeRefused (opening : Node) (least : ℕ) (before : Seat) (owed : Option Committed) (fault : Fault) (after : Seat) : Type 0 where
  pub handed : Seat
  pub hands : HandsIn opening before owed handed
  pub begins : Begins after.last_call handed
  pub refuses : Refuses (purge_due_after opening least after.last_call) fault
  pub same : after ≡ with_last_call handed after.last_call

-- nothing changes but the seat's last call; or what was owed is handed in, and the directory refuses; or the directory purges, and
-- the log, asked for the same floor, gives this fault
abbrev pub IsUnpurged : {L : Type 0} → (L → Log) → Node → ℕ → L → Option Committed → Seat → L → Option Committed → Seat → Fault → Type 0
IsUnpurged seen opening least old owed before new owes after fault =
    (IsHeldBack opening before owed fault after × (new ≡ old) × (owes ≡ owed) × (after ≡ with_last_call before after.last_call))
    ⊎ ((IsPurgeRefused opening least before owed fault after × (new ≡ old) × (owes ≡ None))
    ⊎ ((floor : ℕ) × IsPurge opening least before owed (Some floor) after × LogPurges (seen old) floor (Err fault) (seen new) × (owes ≡ None)))

-- the removed keys with which a running node purges, of the number that it was given: none for never, and no fewer than 64
abbrev pub running_least : ℕ → ℕ
running_least given = if nat_eq given 0 then 0 else max given 64

-- the removed keys are counted now: after an eighth as many writes as keys are to be removed, or if the table is full after each
-- write; never if the number is 0
abbrev pub counts_now : ℕ → ℕ → Bool → Bool
counts_now least writes is_full = (nat_lt 0 least && nat_lt 0 writes) && (is_full || nat_le (least / 8) writes)

-- it did not look whether a purge is due; or it did, after a call of the seat that made no event
abbrev pub MayPurge : {L : Type 0} → (L → Log) → Node → ℕ → L → Option Committed → Seat → L → Option Committed → Seat → Type 0
MayPurge seen opening least old owed before new owes after =
    (asked : Seat) × IsStill before asked
    × (((new ≡ old) × (owes ≡ owed) × (after ≡ asked))
    ⊎ (((answer : Option ℕ) × IsPurge opening least asked owed answer after × IsLogPurged seen old answer new × (owes ≡ None))
    ⊎ ((fault : Fault) × IsUnpurged seen opening least old owed asked new owes after fault)))
