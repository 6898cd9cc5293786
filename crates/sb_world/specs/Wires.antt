-- What came and went on a connection.
use Rattle.std.specs.Prelude.{◌≡◌, ◌≢◌, ℕ, if◌then◌else◌, nat_eq, List, [], ◌∷◌, ◌++◌, map, Option, Some, Result, Ok}
use Rattle.std.specs.List.{flat_map}
use Rattle.sb_types.specs.declared.fault.Fault.{Fault}
use Rattle.sb_types.specs.Runs.{Stands}
use Rattle.sb_codec.specs.declared.message.Message.{Message}
use Rattle.sb_frames.specs.Frames.{frame}
use Rattle.sb_frames.specs.Streams.{open_with}
use Rattle.sb_world.specs.declared.event.Event.{Event}
use Rattle.sb_world.specs.declared.event.Event.TheVariants.{Connect, Line, Piece}
use Rattle.sb_world.specs.declared.event.Answer.{Answer}
use Rattle.sb_world.specs.declared.event.Answer.TheVariants as answers
use Rattle.sb_world.specs.Connections.{Connection}
use Rattle.sb_world.specs.Hearing.{Heard}
use Rattle.sb_world.specs.Lines.{bytes_of_lines}
use Rattle.sb_world.specs.Places.{frame_at}
use Rattle.sb_world.specs.Turns.{Effect, listens}

-- for the connection that last had a number: the frames that were lined up, the bytes that came, and the messages that its session took
pub record Wire : Type 0 where
  pub lined : List (List ℕ)
  pub came : List ℕ
  pub taken : List Message

abbrev pub new_wire : Wire
new_wire = record { lined = []; came = []; taken = [] }

abbrev pub messages_in : List Heard → List Message
messages_in heard = map (λ (h : Heard). h.message) heard

-- ---- what an event adds

-- a connection that begins has no history
abbrev pub wire_after_connect : Result Answer Fault → Wire → Wire
wire_after_connect (Ok (answers.Sent frame)) w = new_wire
wire_after_connect answer w = w

-- a frame is lined up
abbrev pub wire_after_line : Result Answer Fault → Option (List ℕ) → Wire → Wire
wire_after_line (Ok answers.Lined) (Some bytes) w = record { lined = w.lined ++ bytes ∷ []; came = w.came; taken = w.taken }
wire_after_line answer found w = w

-- bytes come, and messages are taken
abbrev pub wire_after_piece : Effect → Wire → Wire
wire_after_piece (listens bytes heard) w = record { lined = w.lined; came = w.came ++ bytes; taken = w.taken ++ messages_in heard }
wire_after_piece effect w = w

-- with another history for one number
abbrev pub wires_with : (ℕ → Wire) → ℕ → Wire → ℕ → Wire
wires_with wires number w other = if nat_eq other number then w else wires other

-- an event adds to the history of the connection that it names
abbrev pub wires_by : Event → Result Answer Fault → Effect → List (List ℕ) → (ℕ → Wire) → ℕ → Wire
wires_by (Connect me number) answer effect sent wires = wires_with wires number (wire_after_connect answer (wires number))
wires_by (Line number index) answer effect sent wires = wires_with wires number (wire_after_line answer (frame_at sent index) (wires number))
wires_by (Piece number count) answer effect sent wires = wires_with wires number (wire_after_piece effect (wires number))
wires_by event answer effect sent wires = wires

-- ---- what is true of it

-- What came is the frames of the messages that were taken, and then a rest. With what is left to come it is the frames that were lined up,
-- and each of them was sent.
pub record IsHistory (sent : List (List ℕ)) (w : Wire) (rest left : List ℕ) : Type 0 where
  pub sent_all : (bytes : List ℕ) → Stands w.lined bytes → Stands sent bytes
  pub taken : w.came ≡ flat_map frame w.taken ++ rest
  pub lined : w.came ++ left ≡ bytes_of_lines w.lined

-- the rest is what the stream of the connection holds, and what is left is its queue
pub record IsTrueWire (sent : List (List ℕ)) (w : Wire) (c : Connection) : Type 0 where
  pub rest : List ℕ
  pub stands : c.stream ≡ open_with rest
  pub history : IsHistory sent w rest c.left

pub record IsPastWire (sent : List (List ℕ)) (w : Wire) : Type 0 where
  pub rest : List ℕ
  pub left : List ℕ
  pub history : IsHistory sent w rest left

-- no two connections have one number
abbrev pub AreDistinct : List Connection → Type 0
AreDistinct [] = Unit {0}
AreDistinct (c ∷ cs) = ((d : Connection) → Stands cs d → d.number ≢ c.number) × AreDistinct cs

pub record AreTrueWires (sent : List (List ℕ)) (conns : List Connection) (wires : ℕ → Wire) : Type 0 where
  pub standing : (c : Connection) → Stands conns c → IsTrueWire sent (wires c.number) c
  -- also of connections that are gone
  pub each : (number : ℕ) → IsPastWire sent (wires number)
  pub distinct : AreDistinct conns
