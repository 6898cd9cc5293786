-- Purges of a directory's own table: when one is due, and what it leaves of the seat.
use Rattle.std.specs.Prelude.{◌≡◌, ℕ, ◌+◌, ◌++◌, if◌then◌else◌, List, [], ◌∷◌, length, Option, Some, None, Result, Ok, Err}
use Rattle.sb_types.specs.declared.fault.Fault.{Fault}
use Rattle.sb_types.specs.declared.fault.Fault.TheVariants.{TurnsSpent}
use Rattle.sb_holdings.specs.Held.{shown_of}
use Rattle.sb_holdings.specs.Nodes.{Node}
use Rattle.sb_node.specs.Purging.{due_floor}
use Rattle.sb_views.specs.declared.event.Event.{Event}
use Rattle.sb_views.specs.declared.event.Event.TheVariants.{Purged}
use Rattle.sb_views.specs.Histories.{node_after}
use Rattle.sb_directory.specs.Seats.{Seat, Begins}
use Rattle.sb_directory.specs.ViewedNodes.{are_spent}

-- the version up to which a node purges its own table
abbrev pub own_due_floor : ℕ → Node → Option ℕ
own_due_floor least node = due_floor least (shown_of node.held node.held.me)

-- this floor, unless no further event can be counted
abbrev pub floor_unless_spent : List Event → Option ℕ → Result (Option ℕ) Fault
floor_unless_spent history None = Ok None
floor_unless_spent history (Some floor) = if are_spent history then Err TurnsSpent else Ok (Some floor)

-- what a purge is answered after these events, where there is memory: the version up to which it purges, or that none is due
abbrev pub purge_due_after : Node → ℕ → List Event → Result (Option ℕ) Fault
purge_due_after opening least history = floor_unless_spent history (own_due_floor least (node_after opening history))

-- the events that a purge up to this version makes
abbrev pub purge_events : Option ℕ → List Event
purge_events None = []
purge_events (Some floor) = Purged floor ∷ []

-- The purge was answered so after this history, which begins with what the seat had seen and with its last call. That history, and
-- the event that the purge made, if it made one, is the seat's last call from then on.
pub record Purges (opening : Node) (least : ℕ) (old : Seat) (answer : Option ℕ) (new : Seat) : Type 0 where
  pub history : List Event
  pub begins : Begins history old
  pub due : purge_due_after opening least history ≡ Ok answer
  pub last_call : new.last_call ≡ history ++ purge_events answer
  pub events : new.events ≡ old.events + length (purge_events answer)
