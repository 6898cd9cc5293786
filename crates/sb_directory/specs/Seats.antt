-- What contracts see of a seat, and what the node answers after some events.
use Rattle.std.specs.Prelude.{◌≡◌, ◌≢◌, ℕ, ◌+◌, ◌++◌, Bool, MatchBool, if◌then◌else◌, ◌⊎◌, List, [], ◌∷◌, Result, Ok, Err, IfErr}
use mathlib.Core.List.{IsPrefix}
use Rattle.sb_types.specs.Text.{is_between}
use Rattle.sb_types.specs.declared.limits.TheConstants.{SEATS_MOST}
use Rattle.sb_types.specs.declared.fault.Fault.{Fault}
use Rattle.sb_types.specs.declared.fault.Fault.TheVariants.{NoMemory, BadSetting}
use Rattle.sb_holdings.specs.Nodes.{Node}
use Rattle.sb_log.specs.Records.{Committed}
use Rattle.sb_node.specs.Cores.{committed_answer}
use Rattle.sb_views.specs.declared.event.Event.{Event}
use Rattle.sb_views.specs.Histories.{node_after}
use Rattle.sb_directory.specs.ViewedNodes.{ViewedNode, unless_spent}

-- the prefix that it has seen, and the one that it knows by an answer; the history as it was when its last call was answered; and
-- how many events its calls made
pub record Seat : Type 0 where
  pub seen : List Event
  pub knowledge : List Event
  pub last_call : List Event
  pub events : ℕ

-- a seat whose calls made no event
abbrev pub new_seat : List Event → Seat
new_seat seen = record { seen = seen; knowledge = seen; last_call = seen; events = 0 }

-- the seat once a further call was answered after this history, which it knows then
abbrev pub with_last_call : Seat → List Event → Seat
with_last_call seat last_call = record { seen = seat.seen; knowledge = last_call; last_call = last_call; events = seat.events }

-- the seat once it called after this history, and knows no more by the answer
abbrev pub with_call : Seat → List Event → Seat
with_call seat last_call = record { seen = seat.seen; knowledge = seat.knowledge; last_call = last_call; events = seat.events }

-- the history begins with what the seat has seen, and with its last call
pub record Begins (history : List Event) (seat : Seat) : Type 0 where
  pub seen : IsPrefix seat.seen history
  pub last_call : IsPrefix seat.last_call history

-- A call was made after this history, and may make this event then, with which the seat's last call ends.
pub record MakesEvent (due : List Event → Result (Unit {0}) Fault) (event : Event) (old new : Seat) : Type 0 where
  pub history : List Event
  pub begins : Begins history old
  pub may : due history ≡ Ok tt
  pub last_call : new.last_call ≡ history ++ event ∷ []

-- how many events the calls of these seats made
abbrev pub events_of_all : List Seat → ℕ
events_of_all [] = 0
events_of_all (seat ∷ seats) = seat.events + events_of_all seats

-- the history begins with what each of these seats has seen, and with its last call
abbrev pub AllBegin : List Event → List Seat → Type 0
AllBegin history [] = Unit {0}
AllBegin history (seat ∷ seats) = Begins history seat × AllBegin history seats

-- whether a directory may have so many seats
abbrev pub seats_due : ℕ → Result (Unit {0}) Fault
seats_due seats = if is_between 1 SEATS_MOST seats then Ok tt else Err BadSetting

-- what a committed write is answered after these events, where there is memory
abbrev pub own_due_after : Node → List Event → Committed → Result (Unit {0}) Fault
own_due_after opening history c = unless_spent history (committed_answer (node_after opening history) c)

-- what a delta is answered after these events, where there is memory
abbrev pub delta_due_after : List Event → Result (Unit {0}) Fault
delta_due_after history = unless_spent history (Ok tt)

-- a refusal is what is due; where nothing is due it is want of memory
abbrev pub Refuses : {X : Type 0} → Result X Fault → Fault → Type 0
Refuses due fault = IfErr due (λ other. fault ≡ other) × (fault ≢ NoMemory → due ≡ Err fault)

-- all that happened is published where that is said; where it is not said, that may be so too, or what is published stays
abbrev pub PublishesWhereSaid : Bool → ViewedNode → ViewedNode → Type 0
PublishesWhereSaid said old new = MatchBool said (new.published ≡ new.history) ((new.published ≡ new.history) ⊎ (new.published ≡ old.published))
