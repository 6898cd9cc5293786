-- The calls that a session makes to a directory from a seat: what it answers, and what they leave of the seat.
use Rattle.std.specs.Prelude.{◌≡◌, ◌+◌, ◌++◌, ◌≤◌, false, List, [], ◌∷◌, length, Ok, Err}
use mathlib.Core.List.{IsPrefix}
use Rattle.sb_types.specs.declared.fault.Fault.TheVariants.{NoMemory}
use Rattle.sb_types.specs.Records.{Settings}
use Rattle.sb_holdings.specs.Nodes.{Node}
use Rattle.sb_holdings.specs.Treats.{Treats}
use Rattle.sb_digest.specs.Builders.{IsLongestFront}
use Rattle.sb_digest.specs.Pairs.{pairs_from}
use Rattle.sb_session.specs.Handlers.{Act, tells, gives, applies, may_enter}
use Rattle.sb_node.specs.Answers.{IsDelta, IsAnswer}
use Rattle.sb_views.specs.declared.event.Event.{Event}
use Rattle.sb_views.specs.declared.event.Event.TheVariants.{Applied}
use Rattle.sb_views.specs.Histories.{node_after}
use Rattle.sb_directory.specs.Seats.{Seat, Begins, delta_due_after, Refuses}

-- what a node with these settings answers after these events
abbrev pub AnswersAfter : Node → Settings → List Event → Act → Type 0
AnswersAfter opening settings history (tells from want (Ok digest)) =
    IsLongestFront settings.budget want from (pairs_from from (node_after opening history).held) digest
AnswersAfter opening settings history (tells from want (Err fault)) = fault ≡ NoMemory
AnswersAfter opening settings history (gives theirs (Ok blocks)) =
    IsDelta settings (node_after opening history).held theirs blocks × IsAnswer settings.budget (node_after opening history).held theirs blocks
AnswersAfter opening settings history (gives theirs (Err fault)) = fault ≡ NoMemory
AnswersAfter opening settings history (applies blocks (Ok ends)) = (delta_due_after history ≡ Ok tt) × Treats (node_after opening history) blocks ends
AnswersAfter opening settings history (applies blocks (Err fault)) = Refuses (delta_due_after history) fault

-- the events that a call with this answer makes: one, where it took a delta
abbrev pub events_of : Act → List Event
events_of (tells from want answer) = []
events_of (gives theirs answer) = []
events_of (applies blocks (Ok ends)) = Applied blocks ends ∷ []
events_of (applies blocks (Err fault)) = []

-- The node answers so after the history up to then, which begins with what the seat has seen and with its last call. That history, and
-- the event that the call made, if it made one, is the seat's last call from then on. Only a call that may make one lets the seat see more.
pub record Serves (opening : Node) (settings : Settings) (old : Seat) (act : Act) (new : Seat) : Type 0 where
  pub history : List Event
  pub begins : Begins history old
  pub answers : AnswersAfter opening settings history act
  pub last_call : new.last_call ≡ history ++ events_of act
  pub events : new.events ≡ old.events + length (events_of act)
  pub grows : IsPrefix old.seen new.seen
  pub seen : may_enter act ≡ false → new.seen ≡ old.seen

-- the seat made no event and has seen no more; its last call may be later
pub record IsStill (old new : Seat) : Type 0 where
  pub seen : new.seen ≡ old.seen
  pub last_call : IsPrefix old.last_call new.last_call
  pub events : new.events ≡ old.events

-- what the seat has seen and its last call only grow, and so does the number of events that it made
pub record IsLater (old new : Seat) : Type 0 where
  pub seen : IsPrefix old.seen new.seen
  pub last_call : IsPrefix old.last_call new.last_call
  pub events : old.events ≤ new.events
