-- What is true of the events of a history is true of those that it begins with and of those that follow.
use Rattle.std.proofs.Common.{◌≡◌, List, ◌++◌, sym, ap, subst, ◌∙◌}
use Rattle.std.proofs.lemmas.Grind.{flat_map-append}
use Rattle.std.specs.List.{flat_map}
use mathlib.Core.List.{IsPrefix}
use Rattle.sb_types.proofs.Standing.{left, right}
use Rattle.sb_holdings.specs.Nodes.{Node, NodeEvent, replay_node, AreNodeEvents, IsNode, NodeLater}
use Rattle.sb_views.specs.declared.event.Event.{Event}
use Rattle.sb_views.specs.Histories.{node_events_of, node_after}

-- what a longer history has beyond this one
abbrev beyond : (history more : List Event) → IsPrefix history more → List NodeEvent
beyond history more begins = flat_map node_events_of begins.0

steps_join : (history more : List Event) → (begins : IsPrefix history more) → flat_map node_events_of more ≡ flat_map node_events_of history ++ beyond history more begins
steps_join history more begins = sym (ap (flat_map node_events_of) begins.1) ∙ flat_map-append node_events_of history begins.0

both_are : (first next : List NodeEvent) → AreNodeEvents (first ++ next) → AreNodeEvents first × AreNodeEvents next
both_are first next are = (λ event s. are event (left first next event s), λ event s. are event (right first next event s))

pub history-later :
    ((node : Node) (events : List NodeEvent) → IsNode node → AreNodeEvents events → IsNode (replay_node node events))
    → ((node : Node) (events : List NodeEvent) → IsNode node → AreNodeEvents events → NodeLater node (replay_node node events))
    → ((node : Node) (events more : List NodeEvent) → replay_node node (events ++ more) ≡ replay_node (replay_node node events) more)
    → (opening : Node) (history more : List Event) → IsNode opening → AreNodeEvents (flat_map node_events_of more) → IsPrefix history more
    → NodeLater (node_after opening history) (node_after opening more)
history-later is later joins opening history more opens are begins =
    let whole = steps_join history more begins in
    let both = both_are (flat_map node_events_of history) (beyond history more begins) (subst AreNodeEvents whole are) in
    let further = later (node_after opening history) (beyond history more begins) (is opening (flat_map node_events_of history) opens both.0) both.1 in
    subst (NodeLater (node_after opening history)) (sym (ap (replay_node opening) whole ∙ joins opening (flat_map node_events_of history) (beyond history more begins))) further
