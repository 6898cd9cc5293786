-- The history of a node: all its events since it was opened, in one order. Nobody keeps it.
use Rattle.std.specs.Prelude.{◌<◌, List, [], ◌∷◌, length}
use Rattle.std.specs.List.{flat_map}
use mathlib.Core.List.{IsPrefix}
use Rattle.logbook.specs.Pages.{Book}
use Rattle.sb_holdings.specs.Nodes.{Node, NodeEvent, Wrote, replay_node}
use Rattle.sb_holdings.specs.Nodes as nodes
use Rattle.sb_holdings.specs.Treats.{took_each}
use Rattle.sb_views.specs.declared.event.Event.{Event}
use Rattle.sb_views.specs.declared.event.EventRef.{EventRef}
use Rattle.sb_views.specs.declared.event.EventRef.TheVariants as lent
use Rattle.sb_views.specs.declared.event.Event.TheVariants.{TookOwn, Applied, Purged}

-- these events are a prefix of the history of this book
pub record Position : Type 0 where
  pub book : Book
  pub events : List Event

-- the event of these parts
abbrev pub event_of : EventRef → Event
event_of (lent.TookOwn entry) = TookOwn entry.now
event_of (lent.Applied delta ends) = Applied delta.now ends.now
event_of (lent.Purged floor) = Purged floor

-- what it is to the node: a write of its own, the blocks that it took, or a purge of its own table
abbrev pub node_events_of : Event → List NodeEvent
node_events_of (TookOwn e) = Wrote e ∷ []
node_events_of (Applied blocks ends) = took_each blocks ends
node_events_of (Purged floor) = nodes.Purged floor ∷ []

-- the node after these events
abbrev pub node_after : Node → List Event → Node
node_after opening events = replay_node opening (flat_map node_events_of events)

-- ys begins with xs, and goes on
abbrev pub IsLonger : List Event → List Event → Type 0
IsLonger xs ys = IsPrefix xs ys × (length xs < length ys)
