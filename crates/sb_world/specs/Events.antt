-- All events, each at its node.
use Rattle.std.specs.Prelude.{◌≡◌, ◌⊎◌, ℕ, Bool, true, false, if◌then◌else◌, List, Option, Some, Ok, Err, option_map, option_and_then}
use Rattle.sb_types.specs.declared.fault.Fault.TheVariants.{NoMemory, Closed}
use Rattle.sb_types.specs.Runs.{shown_at}
use Rattle.sb_holdings.specs.Held.{shown_of}
use Rattle.sb_world.specs.declared.event.Event.{Event}
use Rattle.sb_world.specs.declared.event.Event.TheVariants.{Commit, Take, CrashInCommit, Purge, Trim, Restart, Connect, Close, Line, Piece, Ask, Offer, Read, Upto}
use Rattle.sb_world.specs.declared.event.Answer.TheVariants as answers
use Rattle.sb_world.specs.Connections.{Connection, connection_at, of_others}
use Rattle.sb_world.specs.Places.{Place, Seen, place_at, frame_at}
use Rattle.sb_world.specs.Turns.{Turn, idle_turn, Commits, TakesFirst, Crashes, Purges, Trims, Restarts, Offers}
use Rattle.sb_world.specs.Connecting.{Connects, Closes, LinesUp, AsksOn, Pieces}

-- the node of a connection, if that exists
abbrev pub node_at : List Connection → ℕ → Option (List ℕ)
node_at conns number = option_map (λ (c : Connection). c.me) (connection_at conns number)

-- the node at which an event happens
abbrev pub node_of : List Connection → Event → Option (List ℕ)
node_of conns (Commit me key slot) = Some me
node_of conns (Take me) = Some me
node_of conns (CrashInCommit me key slot is_kept) = Some me
node_of conns (Purge me floor) = Some me
node_of conns (Trim me floor) = Some me
node_of conns (Restart me) = Some me
node_of conns (Connect me number) = Some me
node_of conns (Close number) = node_at conns number
node_of conns (Line number index) = node_at conns number
node_of conns (Piece number count) = node_at conns number
node_of conns (Ask number) = node_at conns number
node_of conns (Offer me owner after) = Some me
node_of conns (Read me owner key) = Some me
node_of conns (Upto me owner) = Some me

abbrev pub place_for : Seen → Event → Option Place
place_for world event = option_and_then (place_at world.places) (node_of world.connections event)

-- what comes of an event at its node, and the connections that are left: a node's own go if it goes down or opens again
abbrev pub Acts : Event → Place → List Connection → List (List ℕ) → Turn → List Connection → Type 0
Acts (Commit me key slot) p conns sent turn new = Commits p key slot turn × (new ≡ conns)
Acts (Take me) p conns sent turn new = TakesFirst p p.waiting turn × (new ≡ conns)
Acts (CrashInCommit me key slot is_kept) p conns sent turn new = Crashes p key slot is_kept turn × (new ≡ (if turn.place.is_up then conns else of_others p.me conns))
Acts (Purge me floor) p conns sent turn new = Purges p floor turn × (new ≡ (if turn.place.is_up then conns else of_others p.me conns))
Acts (Trim me floor) p conns sent turn new = Trims p floor turn × (new ≡ conns)
Acts (Restart me) p conns sent turn new = Restarts p turn × (new ≡ of_others p.me conns)
Acts (Connect me number) p conns sent turn new = Connects (connection_at conns number) p number conns sent turn new
Acts (Close number) p conns sent turn new = Closes (connection_at conns number) p number conns turn new
Acts (Line number index) p conns sent turn new = LinesUp (connection_at conns number) (frame_at sent index) p number conns turn new
Acts (Piece number count) p conns sent turn new = Pieces (connection_at conns number) p number count conns sent turn new
Acts (Ask number) p conns sent turn new = AsksOn (connection_at conns number) p number conns sent turn new
Acts (Offer me owner after) p conns sent turn new = Offers p sent owner after turn × (new ≡ conns)
Acts (Read me owner key) p conns sent turn new =
    ((turn ≡ idle_turn p (Err NoMemory)) ⊎ (turn ≡ idle_turn p (Ok (answers.Shown (shown_at key (shown_of p.core.node.held owner).entries))))) × (new ≡ conns)
Acts (Upto me owner) p conns sent turn new = (turn ≡ idle_turn p (Ok (answers.Number (shown_of p.core.node.held owner).held))) × (new ≡ conns)

-- a node that is down answers to a restart, and to nothing else
abbrev pub answers_to : Event → Bool → Bool
answers_to (Commit me key slot) is_up = is_up
answers_to (Take me) is_up = is_up
answers_to (CrashInCommit me key slot is_kept) is_up = is_up
answers_to (Purge me floor) is_up = is_up
answers_to (Trim me floor) is_up = is_up
answers_to (Restart me) is_up = true
answers_to (Connect me number) is_up = is_up
answers_to (Close number) is_up = is_up
answers_to (Line number index) is_up = is_up
answers_to (Piece number count) is_up = is_up
answers_to (Ask number) is_up = is_up
answers_to (Offer me owner after) is_up = is_up
answers_to (Read me owner key) is_up = is_up
answers_to (Upto me owner) is_up = is_up

abbrev pub ActsWhere : Bool → Event → Place → List Connection → List (List ℕ) → Turn → List Connection → Type 0
ActsWhere true event p conns sent turn new = Acts event p conns sent turn new
ActsWhere false event p conns sent turn new = (turn ≡ idle_turn p (Err Closed)) × (new ≡ conns)

abbrev pub Does : Event → Place → List Connection → List (List ℕ) → Turn → List Connection → Type 0
Does event p conns sent turn new = ActsWhere (answers_to event p.is_up) event p conns sent turn new
