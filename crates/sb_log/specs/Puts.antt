-- What a log does with a write, and what it gives back.
use Rattle.std.specs.Prelude.{◌≡◌, ◌≢◌, ◌⊎◌, ◌↔◌, ℕ, ◌+◌, ◌≤◌, ◌==◌, ◌||◌, Bool, true, false, nat_le, nat_lt, if◌then◌else◌, List, [], Option, Some, None, Result, Ok, Err, IfOk, IfErr, OnOk}
use Rattle.sb_types.specs.declared.entry.Slot.{Slot}
use Rattle.sb_types.specs.declared.entry.Slot.TheVariants.{Set, Removed}
use Rattle.sb_types.specs.declared.fault.Fault.{Fault}
use Rattle.sb_types.specs.declared.fault.Fault.TheVariants.{NoMemory, BadSetting, TableFull, VersionsSpent, NothingThere, Closed, StoreFailed, LogDamaged, FloorTooHigh, OutOfTurn}
use Rattle.sb_types.specs.declared.limits.TheConstants.{VERSION_MOST}
use Rattle.sb_types.specs.Records.{Entry, Table}
use Rattle.sb_types.specs.Runs.{shown_at, live_entries}
use Rattle.sb_table.specs.Plain.{plain_table, with_entry, is_full_for}
use Rattle.sb_table.specs.Floors.{table_at_floor}
use Rattle.sb_table.specs.Contents.{IsContent}
use Rattle.sb_log.specs.Records.{Committed, Log}

-- the write, with the next version
abbrev pub next_entry : Table → List ℕ → Slot → Entry
next_entry content key slot = record { key = key; version = content.held + 1; slot = slot }

abbrev pub is_none : {A : Type 0} → Option A → Bool
is_none None = true
is_none (Some x) = false

-- a removal that has nothing to remove: its key never had a value, or was removed
abbrev pub is_idle : Table → List ℕ → Slot → Bool
is_idle content key (Set value) = false
is_idle content key Removed = is_none (shown_at key content.entries)

-- why the write is refused, the first that holds
abbrev pub refusal : ℕ → Table → List ℕ → Slot → Option Fault
refusal most content key slot =
    if is_idle content key slot then Some NothingThere
    else (if is_full_for key content.entries then Some TableFull
    else (if nat_le most content.held then Some VersionsSpent else None))

-- the content with the write
abbrev pub next_content : Log → List ℕ → Slot → Table
next_content log key slot = with_entry log.content (next_entry log.content key slot)

-- the content once its floor is as high as this: the removals up to it go
abbrev pub content_after_purge : ℕ → Table → Table
content_after_purge floor content = if nat_le floor content.floor then content else table_at_floor content.held floor content

-- a log of nothing
abbrev pub new_log : List ℕ → List ℕ → ℕ → Log
new_log owner cluster most = record { owner = owner; cluster = cluster; most = most; content = plain_table []; is_open = true; is_clean = true; is_sure = true }

-- its store keeps its promise, and always will
abbrev pub IsSure : Log → Type 0
IsSure log = (log.is_sure ≡ true) × (log.is_clean ≡ true)

-- whose log it is stays, and a store that broke its promise is not trusted again
pub record Stays (old new : Log) : Type 0 where
  pub owner : new.owner ≡ old.owner
  pub cluster : new.cluster ≡ old.cluster
  pub most : new.most ≡ old.most
  pub clean : new.is_clean ≡ true → old.is_clean ≡ true
  pub sure : IsSure old → IsSure new

-- ---- a write

-- it is kept, and the log stands
pub record Keeps (old : Log) (key : List ℕ) (slot : Slot) (c : Committed) (new : Log) : Type 0 where
  pub is_open : new.is_open ≡ true
  pub owner : c.owner ≡ old.owner
  pub fits : new.is_clean ≡ true → refusal old.most old.content key slot ≡ None
  pub entry : new.is_clean ≡ true → c.entry ≡ next_entry old.content key slot
  pub content : new.is_clean ≡ true → new.content ≡ with_entry old.content c.entry

-- where there is a reason to refuse the write that one is given, and else memory or the store failed
abbrev pub IsReason : Option Fault → Fault → Type 0
IsReason (Some refused) fault = fault ≡ refused
IsReason None fault = (fault ≡ NoMemory) ⊎ (fault ≡ StoreFailed)

-- a fault of the store closes the log, and any other changes nothing
pub record Refuses (old : Log) (key : List ℕ) (slot : Slot) (fault : Fault) (new : Log) : Type 0 where
  pub reason : new.is_clean ≡ true → old.is_open ≡ true → IsReason (refusal old.most old.content key slot) fault
  pub unchanged : fault ≢ StoreFailed → new ≡ old
  pub closes : fault ≡ StoreFailed → new.is_open ≡ false
  pub sure : IsSure old → fault ≢ StoreFailed

pub record Puts (old : Log) (key : List ℕ) (slot : Slot) (result : Result Committed Fault) (new : Log) : Type 0 where
  pub stays : Stays old new
  -- a closed log gives this fault and no other, and no other log gives it
  pub closed : (result ≡ Err Closed) ↔ (old.is_open ≡ false)
  pub kept : IfOk result (λ c. Keeps old key slot c new)
  pub refused : IfErr result (λ fault. Refuses old key slot fault new)

-- ---- a floor

-- why a floor is not raised: it would be above the last version, and else the store failed
abbrev pub floor_fault : ℕ → Table → Fault
floor_fault floor content = if nat_lt content.held floor then FloorTooHigh else StoreFailed

-- the content has the floor, or had as high a one, and the log stands
pub record RaisesFloor (old : Log) (floor : ℕ) (new : Log) : Type 0 where
  pub is_open : new.is_open ≡ true
  pub fits : new.is_clean ≡ true → floor ≤ old.content.held
  pub content : new.is_clean ≡ true → new.content ≡ content_after_purge floor old.content
  -- no removal up to it is left
  pub gone : new.is_clean ≡ true → live_entries floor new.content.entries ≡ new.content.entries

-- a fault of the store closes the log, and any other changes nothing
pub record RefusesFloor (old : Log) (floor : ℕ) (fault : Fault) (new : Log) : Type 0 where
  pub reason : new.is_clean ≡ true → old.is_open ≡ true → fault ≡ floor_fault floor old.content
  pub unchanged : fault ≢ StoreFailed → new ≡ old
  pub closes : fault ≡ StoreFailed → new.is_open ≡ false
  pub sure : IsSure old → fault ≢ StoreFailed

pub record Purges (old : Log) (floor : ℕ) (result : Result (Unit {0}) Fault) (new : Log) : Type 0 where
  pub stays : Stays old new
  pub closed : (result ≡ Err Closed) ↔ (old.is_open ≡ false)
  -- a floor that is not above the present one changes nothing, and is not refused
  pub idle : old.is_clean ≡ true → old.is_open ≡ true → floor ≤ old.content.floor → (result ≡ Ok tt) × (new ≡ old)
  pub done : OnOk result (RaisesFloor old floor new)
  pub refused : IfErr result (λ fault. RefusesFloor old floor fault new)

-- ---- a log that begins behind a version

-- what such a log holds: nothing, up to the version, which is its floor
abbrev pub nothing_up_to : ℕ → Table
nothing_up_to after = record { held = after; floor = after; entries = [] }

-- why a log does not begin behind a version, the first that holds: the version is outside the limits, the log has writes or began so before, or
-- else the store failed
abbrev pub begin_fault : ℕ → Table → Fault
begin_fault after content =
    if (after == 0) || nat_lt VERSION_MOST after then BadSetting else (if content.held == 0 then StoreFailed else OutOfTurn (content.held + 1))

-- it had nothing, and holds nothing up to the version now
pub record BeginsAfter (old : Log) (after : ℕ) (new : Log) : Type 0 where
  pub is_open : new.is_open ≡ true
  pub limits : (1 ≤ after) × (after ≤ VERSION_MOST)
  pub none : new.is_clean ≡ true → old.content ≡ plain_table []
  pub content : new.is_clean ≡ true → new.content ≡ nothing_up_to after

-- a fault of the store closes the log, and any other changes nothing
pub record RefusesToBegin (old : Log) (after : ℕ) (fault : Fault) (new : Log) : Type 0 where
  pub reason : new.is_clean ≡ true → old.is_open ≡ true → fault ≡ begin_fault after old.content
  pub unchanged : fault ≢ StoreFailed → new ≡ old
  pub closes : fault ≡ StoreFailed → new.is_open ≡ false

pub record Begins (old : Log) (after : ℕ) (result : Result (Unit {0}) Fault) (new : Log) : Type 0 where
  pub stays : Stays old new
  pub closed : (result ≡ Err Closed) ↔ (old.is_open ≡ false)
  pub done : OnOk result (BeginsAfter old after new)
  pub refused : IfErr result (λ fault. RefusesToBegin old after fault new)

-- ---- reading it again

-- the content, in a table
pub record Gives (old : Log) (table : Table) (new : Log) : Type 0 where
  pub is_open : new.is_open ≡ true
  pub is : IsContent table
  pub same : new.is_clean ≡ true → table ≡ old.content
  pub content : new.is_clean ≡ true → new.content ≡ old.content

-- Rows that are damaged come of a store that broke its promise. They close the log too, as a fault of the store does.
pub record FailsToLoad (old : Log) (fault : Fault) (new : Log) : Type 0 where
  pub reason : old.is_open ≡ true → (fault ≡ NoMemory) ⊎ ((fault ≡ StoreFailed) ⊎ ((fault ≡ LogDamaged) × (new.is_clean ≡ false)))
  pub is_open : fault ≡ NoMemory → new.is_open ≡ old.is_open
  pub content : fault ≡ NoMemory → new.is_clean ≡ true → new.content ≡ old.content
  pub closes : (fault ≡ StoreFailed) ⊎ (fault ≡ LogDamaged) → new.is_open ≡ false
  pub unchanged : fault ≡ Closed → new ≡ old
  pub sure : IsSure old → (fault ≡ NoMemory) ⊎ (fault ≡ Closed)

pub record Loads (old : Log) (result : Result Table Fault) (new : Log) : Type 0 where
  pub stays : Stays old new
  pub closed : (result ≡ Err Closed) ↔ (old.is_open ≡ false)
  pub given : IfOk result (λ table. Gives old table new)
  pub failed : IfErr result (λ fault. FailsToLoad old fault new)

-- ---- crashes

-- what a crash may leave is the content, as long as the log stands
abbrev pub IsSettled : Log → (Table → Type 0) → Type 0
IsSettled log leaves = log.is_clean ≡ true → log.is_open ≡ true → (left : Table) → leaves left → left ≡ log.content

-- a write to a log that stands leaves over a crash the content before it or the content with it
abbrev pub PutSurvives : Log → List ℕ → Slot → Log → (Table → Type 0) → Type 0
PutSurvives old key slot new leaves = new.is_clean ≡ true → old.is_open ≡ true → (left : Table) → leaves left → (left ≡ old.content) ⊎ (left ≡ next_content old key slot)

-- so does a floor that is raised: the content before it or the content with it
abbrev pub PurgeSurvives : Log → ℕ → Log → (Table → Type 0) → Type 0
PurgeSurvives old floor new leaves = new.is_clean ≡ true → old.is_open ≡ true → (left : Table) → leaves left → (left ≡ old.content) ⊎ (left ≡ content_after_purge floor old.content)

-- so does a log that begins behind a version: what it held before, or nothing up to that version
abbrev pub BeginSurvives : Log → ℕ → Log → (Table → Type 0) → Type 0
BeginSurvives old after new leaves = new.is_clean ≡ true → old.is_open ≡ true → (left : Table) → leaves left → (left ≡ old.content) ⊎ (left ≡ nothing_up_to after)

-- reading it leaves over a crash what was there
abbrev pub LoadSurvives : Log → Log → (Table → Type 0) → Type 0
LoadSurvives old new leaves = new.is_clean ≡ true → old.is_open ≡ true → (left : Table) → leaves left → left ≡ old.content
