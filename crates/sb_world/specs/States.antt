-- The machine of worlds: a world with the history that it does not store.
use Rattle.std.specs.Prelude.{◌≡◌, ℕ, ◌+◌, true, if◌then◌else◌, nat_eq, List, [], ◌∷◌, ◌++◌, Option, Some, None, Result, IfSome}
use Rattle.std.specs.Option.{option_map_or}
use Rattle.std.specs.Cmp.Lexicographic.{pointwise}
use Rattle.sb_types.specs.declared.entry.Write.{Write}
use Rattle.sb_types.specs.declared.fault.Fault.{Fault}
use Rattle.sb_table.specs.Floors.{IsKeptTable}
use Rattle.sb_holdings.specs.Contents.{content_table}
use Rattle.sb_holdings.specs.Nodes.{Node, NodeEvent, opened_node}
use Rattle.sb_world.specs.declared.event.Event.{Event}
use Rattle.sb_world.specs.declared.event.Answer.{Answer}
use Rattle.sb_world.specs.Places.{Place, Seen, place_at}
use Rattle.sb_world.specs.Turns.{Effect, rests, logs, goes, listens, opens}
use Rattle.sb_world.specs.Events.{place_for}
use Rattle.sb_world.specs.Hearing.{events_in}
use Rattle.sb_world.specs.Wires.{Wire, new_wire, wires_by}
use Rattle.sb_world.specs.Steps.{Step}

-- for a node: what it held when it last opened, what happened to it since, and how often it opened again
pub record Past : Type 0 where
  pub opening : Node
  pub since : List NodeEvent
  pub openings : ℕ

-- what a world shows, all that each owner wrote, each node's past, and what came and went on the connection of each number
pub record State : Type 0 where
  pub now : Seen
  pub writes : List ℕ → List Write
  pub past : List ℕ → Past
  pub wires : ℕ → Wire

-- with another value for one name
abbrev pub put_at : {X : Type 0} → (List ℕ → X) → List ℕ → X → List ℕ → X
put_at f name x other = if pointwise nat_eq other name then x else f other

abbrev pub writes_after : List Write → Effect → List Write
writes_after writes rests = writes
writes_after writes (logs w) = writes ++ w ∷ []
writes_after writes (goes events) = writes
writes_after writes (listens bytes heard) = writes
writes_after writes (opens floor) = writes

abbrev pub past_after : List ℕ → List Write → Past → Effect → Past
past_after me writes past rests = past
past_after me writes past (logs w) = past
past_after me writes past (goes events) = record { opening = past.opening; since = past.since ++ events; openings = past.openings }
past_after me writes past (listens bytes heard) = record { opening = past.opening; since = past.since ++ events_in heard; openings = past.openings }
past_after me writes past (opens floor) = record { opening = opened_node me (content_table floor writes); since = []; openings = past.openings + 1 }

-- the history goes on by the effect at a node, if there is one
abbrev pub writes_then : State → Option Place → Effect → List ℕ → List Write
writes_then old None effect = old.writes
writes_then old (Some p) effect = put_at old.writes p.me (writes_after (old.writes p.me) effect)

abbrev pub past_then : State → Option Place → Effect → List ℕ → Past
past_then old None effect = old.past
past_then old (Some p) effect = put_at old.past p.me (past_after p.me (old.writes p.me) (old.past p.me) effect)

abbrev pub wires_then : State → Option Place → Event → Result Answer Fault → Effect → ℕ → Wire
wires_then old None event answer effect = old.wires
wires_then old (Some p) event answer effect = wires_by event answer effect old.now.sent old.wires

abbrev pub state_after : State → Option Place → Event → Result Answer Fault → Effect → Seen → State
state_after old found event answer effect now =
    record { now = now; writes = writes_then old found effect; past = past_then old found effect; wires = wires_then old found event answer effect }

-- one step of the machine
abbrev pub Moves : State → Event → Result Answer Fault → State → Type 0
Moves old event answer new = (effect : Effect) × Step old.now event answer effect new.now × (new ≡ state_after old (place_for old.now event) event answer effect new.now)

-- each event in turn, with its answer and the state after it
abbrev pub Run : State → List Event → List (Result Answer Fault) → List State → Type 0
Run old [] [] [] = Unit {0}
Run old (event ∷ events) (answer ∷ answers) (state ∷ states) = Moves old event answer state × Run state events answers states
Run old [] [] (state ∷ states) = ⊥
Run old [] (answer ∷ answers) states = ⊥
Run old (event ∷ events) [] states = ⊥
Run old (event ∷ events) (answer ∷ answers) [] = ⊥

abbrev pub last_of : State → List State → State
last_of first [] = first
last_of first (state ∷ states) = last_of state states

-- a node that has just opened with the content of its log: that of its owner's writes, purged up to some floor
pub record IsFresh (s : State) (p : Place) : Type 0 where
  pub owner : p.log.owner ≡ p.me
  pub content : p.log.content ≡ content_table p.log.content.floor (s.writes p.me)
  pub kept : IsKeptTable p.log.content
  pub settings : p.core.settings ≡ s.now.settings
  pub node : p.core.node ≡ opened_node p.me p.log.content
  pub waiting : p.waiting ≡ []
  pub up : p.is_up ≡ true
  pub past : s.past p.me ≡ record { opening = p.core.node; since = []; openings = 0 }

-- each node has just opened, nothing is connected, and nothing was sent, lined up or taken
pub record IsStart (s : State) : Type 0 where
  pub places : (name : List ℕ) → IfSome (place_at s.now.places name) (IsFresh s)
  pub connections : s.now.connections ≡ []
  pub sent : s.now.sent ≡ []
  pub wires : (number : ℕ) → s.wires number ≡ new_wire

-- a run leads from a start to the state
pub record IsReached (s : State) : Type 0 where
  pub start : State
  pub is_start : IsStart start
  pub events : List Event
  pub answers : List (Result Answer Fault)
  pub states : List State
  pub run : Run start events answers states
  pub last : last_of start states ≡ s

-- the state is reached, and the world shows it, without the history
pub record FitsWorld (s : State) (world : Seen) : Type 0 where
  pub reached : IsReached s
  pub now : s.now ≡ world

-- the logs' contents are those of these writes, each with the floor that it has
abbrev pub AreContents : (List ℕ → List Write) → List Place → Type 0
AreContents writes places = (name : List ℕ) → IfSome (place_at places name) (λ p. p.log.content ≡ content_table p.log.content.floor (writes p.me))

-- the floor of a name's log, or 0 if no node has that name
abbrev pub floor_at : List Place → List ℕ → ℕ
floor_at places name = option_map_or (λ (p : Place). p.log.content.floor) (place_at places name) 0

-- a world that has just been made, whose owners wrote this
abbrev pub start_of : (List ℕ → List Write) → Seen → State
start_of writes world = record {
  now = world;
  writes = writes;
  past = λ name. record { opening = opened_node name (content_table (floor_at world.places name) (writes name)); since = []; openings = 0 };
  wires = λ number. new_wire;
}
