-- What a node does with its connections.
use Rattle.std.specs.Prelude.{◌≡◌, ℕ, ◌≤◌, true, List, [], ◌∷◌, ◌++◌, ◌⊎◌, length, take, drop, Option, Some, None, Result, Ok, Err}
use Rattle.sb_types.specs.declared.fault.Fault.{Fault}
use Rattle.sb_types.specs.declared.fault.Fault.TheVariants.{NoMemory}
use Rattle.sb_codec.specs.declared.message.Message.{Message}
use Rattle.sb_codec.specs.Messages.{is_message}
use Rattle.sb_frames.specs.Frames.{frame}
use Rattle.sb_frames.specs.Streams.{Stream, open_with, shut}
use Rattle.sb_session.specs.Sessions.{Session, new_session, hello_of}
use Rattle.sb_session.specs.Taking.{Asks}
use Rattle.sb_node.specs.Cores.{Core}
use Rattle.sb_node.specs.Steps.{Steps}
use Rattle.sb_world.specs.declared.event.Item.{Item}
use Rattle.sb_world.specs.declared.event.Answer.{Answer}
use Rattle.sb_world.specs.declared.event.Answer.TheVariants as answers
use Rattle.sb_world.specs.Connections.{Connection, with_connection, without_connection}
use Rattle.sb_world.specs.Hearing.{Listener, listener_of, Heard, Hears, Tells}
use Rattle.sb_world.specs.Places.{Place}
use Rattle.sb_world.specs.Turns.{Turn, listens, idle_turn, sent_turn, with_core}

-- nothing changes
abbrev pub Stays : Place → List Connection → Result Answer Fault → Turn → List Connection → Type 0
Stays p conns answer turn new = (turn ≡ idle_turn p answer) × (new ≡ conns)

-- ---- it begins

-- its session is of the node, in the cluster of its settings, and nothing has come or is in the queue
abbrev pub session_at : Place → Session
session_at p = new_session p.core.settings.cluster p.me

abbrev pub new_connection : Place → ℕ → Connection
new_connection p number = record { number = number; me = p.me; session = session_at p; stream = open_with []; left = [] }

-- its Hello is sent, unless the number is in use
abbrev pub Connects : Option Connection → Place → ℕ → List Connection → List (List ℕ) → Turn → List Connection → Type 0
Connects (Some c) p number conns sent turn new = Stays p conns (Ok answers.Nothing) turn new
Connects None p number conns sent turn new =
    Stays p conns (Err NoMemory) turn new
    ⊎ ((is_message (hello_of (session_at p)) ≡ true) × (length (frame (hello_of (session_at p))) ≤ p.core.settings.budget)
    × (turn ≡ sent_turn p sent (hello_of (session_at p))) × (new ≡ conns ++ new_connection p number ∷ []))

-- ---- it is closed

abbrev pub Closes : Option Connection → Place → ℕ → List Connection → Turn → List Connection → Type 0
Closes None p number conns turn new = Stays p conns (Ok answers.Nothing) turn new
Closes (Some c) p number conns turn new = (turn ≡ idle_turn p (Ok answers.Shut)) × (new ≡ without_connection conns number)

-- ---- a frame enters the queue

abbrev pub connection_with_bytes : Connection → List ℕ → Connection
connection_with_bytes c bytes = record { number = c.number; me = c.me; session = c.session; stream = c.stream; left = c.left ++ bytes }

abbrev pub LinesUp : Option Connection → Option (List ℕ) → Place → ℕ → List Connection → Turn → List Connection → Type 0
LinesUp None found p number conns turn new = Stays p conns (Ok answers.Nothing) turn new
LinesUp (Some c) None p number conns turn new = Stays p conns (Ok answers.Nothing) turn new
LinesUp (Some c) (Some bytes) p number conns turn new =
    Stays p conns (Err NoMemory) turn new
    ⊎ ((turn ≡ idle_turn p (Ok answers.Lined)) × (new ≡ with_connection conns number (connection_with_bytes c bytes)))

-- ---- its session asks

abbrev pub in_session : Connection → Session → Connection
in_session c session = record { number = c.number; me = c.me; session = session; stream = c.stream; left = c.left }

-- the next digest is sent, or nothing
abbrev pub Asked : Result Message Fault → Place → Connection → Session → ℕ → List Connection → List (List ℕ) → Turn → List Connection → Type 0
Asked (Err fault) p c session number conns sent turn new = Stays p conns (Err fault) turn new
Asked (Ok message) p c session number conns sent turn new =
    Stays p conns (Err NoMemory) turn new
    ⊎ ((is_message message ≡ true) × (turn ≡ sent_turn p sent message) × (new ≡ with_connection conns number (in_session c session)))

abbrev pub AsksOn : Option Connection → Place → ℕ → List Connection → List (List ℕ) → Turn → List Connection → Type 0
AsksOn None p number conns sent turn new = Stays p conns (Ok answers.Nothing) turn new
AsksOn (Some c) p number conns sent turn new =
    (result : Result Message Fault) × (session : Session) × (core : Core) × Asks Steps c.session p.core result session core
    × Asked result (with_core p core) c session number conns sent turn new

-- ---- a piece comes

abbrev pub stream_with_piece : Stream → List ℕ → Stream
stream_with_piece (open_with held) piece = open_with (held ++ piece)
stream_with_piece shut piece = shut

-- the node at the connection, with the next bytes of the queue
abbrev pub listener : Core → Connection → ℕ → Listener
listener core c count = listener_of core c.session (stream_with_piece c.stream (take count c.left))

abbrev pub heard_by : Connection → ℕ → Listener → Connection
heard_by c count last = record { number = c.number; me = c.me; session = last.session; stream = last.stream; left = drop count c.left }

-- a fault closes the connection
abbrev pub connections_after : Option Fault → List Connection → ℕ → Connection → List Connection
connections_after None conns number c = with_connection conns number c
connections_after (Some fault) conns number c = without_connection conns number

abbrev pub piece_turn : Place → List ℕ → List Heard → List Item → Option Fault → Core → List (List ℕ) → Turn
piece_turn p piece heard items fault core frames = record {
  answer = Ok (answers.Delivered items fault);
  effect = listens piece heard;
  place = with_core p core;
  frames = frames;
}

-- the node takes each message that has come whole, and sends each reply, up to the first fault
pub record Delivers (p : Place) (c : Connection) (number count : ℕ) (conns : List Connection) (sent : List (List ℕ)) (turn : Turn) (new : List Connection) : Type 0 where
  pub heard : List Heard
  pub mid : Listener
  pub last : Listener
  pub fault : Option Fault
  pub items : List Item
  pub frames : List (List ℕ)
  pub hears : Hears (listener p.core c count) heard mid
  pub tells : Tells (length sent) heard mid last fault items frames
  pub turn_is : turn ≡ piece_turn p (take count c.left) heard items fault last.core frames
  pub left : new ≡ connections_after fault conns number (heard_by c count last)

abbrev pub Pieces : Option Connection → Place → ℕ → ℕ → List Connection → List (List ℕ) → Turn → List Connection → Type 0
Pieces None p number count conns sent turn new = Stays p conns (Ok answers.Nothing) turn new
Pieces (Some c) p number count conns sent turn new = Delivers p c number count conns sent turn new
