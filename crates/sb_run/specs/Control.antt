-- What comes of one request on the control socket.
use Rattle.std.specs.Prelude.{◌≡◌, ◌⊎◌, ℕ, ◌+◌, Bool, true, List, Option, Result, Ok, Err, OnOk, IfOk, IfErr}
use Rattle.std.specs.Io.KnownBytes.{Keeps}
use mathlib.Core.List.{IsPrefix}
use Rattle.sb_types.specs.declared.entry.Slot.{Slot}
use Rattle.sb_types.specs.declared.fault.Fault.{Fault}
use Rattle.sb_types.specs.declared.fault.Fault.TheVariants.{NoMemory}
use Rattle.sb_types.specs.Faults.{number_of}
use Rattle.sb_types.specs.Records.{Settings}
use Rattle.sb_holdings.specs.Nodes.{Node}
use Rattle.sb_codec.specs.declared.message.Message.{Message}
use Rattle.sb_codec.specs.declared.message.Message.TheVariants as kinds
use Rattle.sb_codec.specs.declared.message.ask.Ask as asking
use Rattle.sb_codec.specs.declared.message.ages.OwnerAge.{OwnerAge}
use Rattle.sb_codec.specs.Records.{Rows}
use Rattle.sb_frames.specs.Frames.{frame}
use Rattle.sb_frames.specs.Sending.{Sends}
use Rattle.sb_frames.specs.Connections.{Connection}
use Rattle.sb_log.specs.Records.{Committed, Log}
use Rattle.sb_views.specs.declared.event.Event.{Event}
use Rattle.sb_views.specs.NodeViews.{NodeView}
use Rattle.sb_views.specs.Histories.{node_after}
use Rattle.sb_views.specs.Publishing.{IsView}
use Rattle.sb_query.specs.Pages.{asked_rows, IsLongestPage}
use Rattle.sb_directory.specs.Seats.{Seat}
use Rattle.sb_directory.specs.Serving.{IsLater}
use Rattle.sb_run.specs.declared.own_writes.Stored.{Stored}
use Rattle.sb_run.specs.OwnWriting.{version_of, count_owed, count_shared, IsUndisputed, IsHandedIn, IsStored, IsRefused}
use Rattle.sb_control.specs.OneMessage.{ReceivesOne}
use Rattle.sb_run.specs.StatusReplies.{IsStatusReply}

-- what the owner's `put` leaves with this answer
pub record IsPut {L : Type 0} (seen : L → Log) (opening : Node) (old : L) (owed : Option Committed) (before : Seat) (key : List ℕ) (slot : Slot)
    (new : L) (owes : Option Committed) (after : Seat) (answer : Result Stored Fault) : Type 0 where
  pub handed : OnOk answer (IsHandedIn opening before owed after)
  pub free : OnOk answer (IsUndisputed opening before after)
  pub stored : IfOk answer (λ stored. IsStored opening (seen old) before key slot stored (seen new) owes after)
  pub count : IfOk answer (λ stored. after.events ≡ before.events + count_owed owed + count_shared stored)
  pub refused : IfErr answer (λ fault. IsRefused seen opening old owed before key slot new owes after fault)
  pub later : IsLater before after

-- the version of a write that was taken, or the number of the fault
abbrev pub reply_of : Result Stored Fault → Message
reply_of (Ok stored) = kinds.Done (version_of stored)
reply_of (Err fault) = kinds.Refused (number_of fault)

abbrev pub IsPutReply : {L : Type 0} → (L → Log) → Node → L → Option Committed → Seat → List ℕ → Slot → L → Option Committed → Seat → Message → Type 0
IsPutReply seen opening old owed before key slot new owes after reply =
    (answer : Result Stored Fault) × IsPut seen opening old owed before key slot new owes after answer × (reply ≡ reply_of answer)

-- the longest page within the budget of what is asked of the node after these events; or there was no memory for it
abbrev pub IsLookedUp : Node → ℕ → List Event → asking.Ask → Message → Type 0
IsLookedUp opening budget seen ask reply =
    ((view : NodeView) × IsView (node_after opening seen) view × ((page : Rows) × IsLongestPage budget (asked_rows ask view) page × (reply ≡ kinds.Rows page)))
    ⊎ (reply ≡ kinds.Refused (number_of NoMemory))

-- the seat sees what it reads; or it may not enter
abbrev pub IsPageReply : Node → ℕ → Seat → asking.Ask → Seat → Message → Type 0
IsPageReply opening budget before ask after reply =
    (IsPrefix before.seen after.seen × (after.last_call ≡ before.last_call) × (after.events ≡ before.events) × IsLookedUp opening budget after.seen ask reply)
    ⊎ ((after ≡ before) × (reply ≡ kinds.Refused (number_of NoMemory)))

-- a page or a refusal answers the question, and it is written: all of it, or its first bytes
abbrev pub AnswersAsk : Node → ℕ → Seat → asking.Ask → Seat → Option (List ℕ) → Option (List ℕ) → Type 0
AnswersAsk opening budget before ask after from to =
    (reply : Message) × IsPageReply opening budget before ask after reply × ((sent : Result (Unit {0}) Fault) × Sends from to (frame reply) sent)

-- any other message is none that is answered here
abbrev pub IsUnknown : Message → Type 0
IsUnknown reply = reply ≡ kinds.Refused 13

-- what the request is answered, and what it leaves of the log, of what is owed and of the seat
abbrev pub Answers : {L : Type 0} → (L → Log) → Node → ℕ → L → Option Committed → Seat → Message → L → Option Committed → Seat → Message → Type 0
Answers seen opening budget old owed before (kinds.Put write) new owes after reply =
    IsPutReply seen opening old owed before write.key write.slot new owes after reply
Answers seen opening budget old owed before (kinds.Ask ask) new owes after reply =
    (new ≡ old) × (owes ≡ owed) × IsPageReply opening budget before ask after reply
Answers seen opening budget old owed before (kinds.Hello x) new owes after reply = (new ≡ old) × (owes ≡ owed) × (after ≡ before) × IsUnknown reply
Answers seen opening budget old owed before (kinds.Digest x) new owes after reply = (new ≡ old) × (owes ≡ owed) × (after ≡ before) × IsUnknown reply
Answers seen opening budget old owed before (kinds.Delta x) new owes after reply = (new ≡ old) × (owes ≡ owed) × (after ≡ before) × IsUnknown reply
Answers seen opening budget old owed before (kinds.Bye x) new owes after reply = (new ≡ old) × (owes ≡ owed) × (after ≡ before) × IsUnknown reply
Answers seen opening budget old owed before (kinds.Rows x) new owes after reply = (new ≡ old) × (owes ≡ owed) × (after ≡ before) × IsUnknown reply
Answers seen opening budget old owed before (kinds.Done x) new owes after reply = (new ≡ old) × (owes ≡ owed) × (after ≡ before) × IsUnknown reply
Answers seen opening budget old owed before (kinds.Refused x) new owes after reply = (new ≡ old) × (owes ≡ owed) × (after ≡ before) × IsUnknown reply
Answers seen opening budget old owed before (kinds.AskStatus x) new owes after reply = (new ≡ old) × (owes ≡ owed) × (after ≡ before) × IsUnknown reply
Answers seen opening budget old owed before (kinds.NodeStatus x) new owes after reply = (new ≡ old) × (owes ≡ owed) × (after ≡ before) × IsUnknown reply
Answers seen opening budget old owed before (kinds.AskChange x) new owes after reply = (new ≡ old) × (owes ≡ owed) × (after ≡ before) × IsUnknown reply
Answers seen opening budget old owed before (kinds.Notice x) new owes after reply = (new ≡ old) × (owes ≡ owed) × (after ≡ before) × IsUnknown reply
Answers seen opening budget old owed before kinds.AskAges new owes after reply = (new ≡ old) × (owes ≡ owed) × (after ≡ before) × IsUnknown reply
Answers seen opening budget old owed before (kinds.Ages x) new owes after reply = (new ≡ old) × (owes ≡ owed) × (after ≡ before) × IsUnknown reply

-- how long ago each owner was heard; or there was no memory for it
abbrev pub IsAgesReply : Message → Type 0
IsAgesReply reply = ((ages : List OwnerAge) × (reply ≡ kinds.Ages ages)) ⊎ (reply ≡ kinds.Refused (number_of NoMemory))

-- what a running node answers: a question how it is by its status, one for ages by them, and all else as a node of which nothing
-- else is known
abbrev pub AnswersAll : {L : Type 0} → (L → Log) → Node → Settings → L → Option Committed → Seat → Message → L → Option Committed → Seat → Message → Type 0
AnswersAll seen opening settings old owed before (kinds.AskStatus asked) new owes after reply =
    (new ≡ old) × (owes ≡ owed) × IsStatusReply opening settings before asked after reply
AnswersAll seen opening settings old owed before kinds.AskAges new owes after reply = (new ≡ old) × (owes ≡ owed) × (after ≡ before) × IsAgesReply reply
AnswersAll seen opening settings old owed before request new owes after reply = Answers seen opening settings.budget old owed before request new owes after reply

-- this request is answered; or it failed, and nothing changes
abbrev pub AnswersTo : {L : Type 0} → (L → Log) → Node → Settings → L → Option Committed → Seat → Message → L → Option Committed → Seat → Bool → Type 0
AnswersTo seen opening settings old owed before request new owes after failed =
    ((failed ≡ true) × (new ≡ old) × (owes ≡ owed) × (after ≡ before)) ⊎ ((reply : Message) × AnswersAll seen opening settings old owed before request new owes after reply)

-- if no request is received all stays the same and nothing is written; else one answer is written, or its first bytes
abbrev pub Controls : Type 0 → (Message → Message → Type 0) → Connection → Connection → Result (Unit {0}) Fault → Type 0
Controls same answers old new result =
    ((fault : Fault) × ReceivesOne old new (Err fault) × (result ≡ Err fault) × same × Keeps old.output new.output)
    ⊎ ((request : Message) × ReceivesOne old new (Ok request) × ((reply : Message) × answers request reply × Sends old.output new.output (frame reply) result))
