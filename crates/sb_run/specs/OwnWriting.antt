-- What comes of a write of the node's owner.
use Rattle.std.specs.Prelude.{◌≡◌, ◌⊎◌, ℕ, ◌+◌, true, List, Option, Some, None, Ok, Err}
use mathlib.Core.List.{IsPrefix}
use Rattle.sb_types.specs.declared.entry.Slot.{Slot}
use Rattle.sb_types.specs.declared.fault.Fault.{Fault}
use Rattle.sb_types.specs.declared.fault.Fault.TheVariants.{OwnerConflict}
use Rattle.sb_holdings.specs.Nodes.{Node}
use Rattle.sb_log.specs.Records.{Committed, Log}
use Rattle.sb_log.specs.Puts.{Puts}
use Rattle.sb_views.specs.declared.event.Event.{Event}
use Rattle.sb_views.specs.declared.event.Event.TheVariants.{TookOwn}
use Rattle.sb_views.specs.Histories.{node_after}
use Rattle.sb_directory.specs.declared.receipt.Receipt.{Receipt}
use Rattle.sb_directory.specs.Seats.{Seat, Begins, MakesEvent, Refuses, with_last_call, own_due_after}
use Rattle.sb_run.specs.declared.own_writes.Stored.{Stored}
use Rattle.sb_run.specs.declared.own_writes.Stored.TheVariants.{Shared, Owed}

abbrev pub version_of : Stored → ℕ
version_of (Shared receipt) = receipt.version
version_of (Owed version fault) = version

-- how many events handing in what is owed makes
abbrev pub count_owed : Option Committed → ℕ
count_owed None = 0
count_owed (Some c) = 1

-- the version of the last write that is news, once what is owed is handed in
abbrev pub news_after : Option Committed → Option ℕ → Option ℕ
news_after None stored = stored
news_after (Some c) stored = Some c.entry.version

-- how many events the write itself makes
abbrev pub count_shared : Stored → ℕ
count_shared (Shared receipt) = 1
count_shared (Owed version fault) = 0

-- the directory takes the write when it may, and the seat's last call ends with that; where the receipt says so, the seat has seen it
abbrev pub IsTaken : Node → Seat → Committed → Receipt → Seat → Type 0
IsTaken opening before c receipt after =
    MakesEvent (λ history. own_due_after opening history c) (TookOwn c.entry) before after × (receipt.shown ≡ true → after.seen ≡ after.last_call)

-- the directory refuses the write after the history of the seat's last call: by this fault, where there is memory
abbrev pub IsTurnedAway : Node → Seat → Committed → Fault → Seat → Type 0
IsTurnedAway opening before c fault after = Begins after.last_call before × Refuses (own_due_after opening after.last_call c) fault

-- what was owed is an event, which is in the history of the seat's last call
abbrev pub IsHandedIn : Node → Seat → Option Committed → Seat → Type 0
IsHandedIn opening before None after = Unit {0}
IsHandedIn opening before (Some c) after =
    (handed : Seat) × MakesEvent (λ history. own_due_after opening history c) (TookOwn c.entry) before handed × IsPrefix handed.last_call after.last_call

-- the write is the last event of the seat's last call, and nothing is owed; or the directory refuses it by this fault, and it is owed
abbrev pub PassesOn : Node → Seat → Committed → Stored → Option Committed → Seat → Type 0
PassesOn opening before c (Shared receipt) owed after = (owed ≡ None) × IsTaken opening before c receipt after
PassesOn opening before c (Owed version fault) owed after = (owed ≡ Some c) × IsTurnedAway opening before c fault after

-- the log took the write in this call, and what it took is passed on under the version that it gave
pub record IsStored (opening : Node) (old : Log) (before : Seat) (key : List ℕ) (slot : Slot) (stored : Stored)
    (new : Log) (owed : Option Committed) (after : Seat) : Type 0 where
  pub committed : Committed
  pub puts : Puts old key slot (Ok committed) new
  pub version : version_of stored ≡ committed.entry.version
  pub passes : PassesOn opening before committed stored owed after

-- at some moment of the call no block of the own name had reached above the own held version
abbrev pub IsUndisputed : Node → Seat → Seat → Type 0
IsUndisputed opening before after = (l : List Event) × Begins l before × IsPrefix l after.last_call × ((node_after opening l).conflict ≡ None)

-- another node writes under the own name; or the directory refuses what is owed
abbrev pub IsHeldBack : Node → Seat → Option Committed → Fault → Seat → Type 0
IsHeldBack opening before owed fault after =
    (Begins after.last_call before × ((version : ℕ) × ((node_after opening after.last_call).conflict ≡ Some version) × (fault ≡ OwnerConflict version)))
    ⊎ ((c : Committed) × (owed ≡ Some c) × IsTurnedAway opening before c fault after)

-- nothing changes but the seat's last call, and the log is not asked; or what was owed is handed in, and the log refuses
abbrev pub IsRefused : {L : Type 0} → (L → Log) → Node → L → Option Committed → Seat → List ℕ → Slot → L → Option Committed → Seat → Fault → Type 0
IsRefused seen opening old owed before key slot new owes after fault =
    (IsHeldBack opening before owed fault after × (new ≡ old) × (owes ≡ owed) × (after ≡ with_last_call before after.last_call))
    ⊎ (Puts (seen old) key slot (Err fault) (seen new) × (owes ≡ None) × IsHandedIn opening before owed after × (after.events ≡ before.events + count_owed owed))
