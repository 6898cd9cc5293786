-- Which events the sessions of a seat make: the deltas that came over their connections, and no other.
use Rattle.std.specs.Prelude.{◌≡◌, ℕ, ◌+◌, ◌<◌, List, [], ◌∷◌, ◌++◌, length, slice_index_or, Option, Some, None}
use Rattle.std.specs.List.{flat_map}
use Rattle.std.specs.Io.KnownBytes.{Consumes}
use mathlib.Core.List.{IsPrefix}
use Rattle.sb_types.specs.Records.{Block}
use Rattle.sb_holdings.specs.declared.ends.BlockEnd.{BlockEnd}
use Rattle.sb_codec.specs.declared.message.Message.{Message}
use Rattle.sb_frames.specs.Frames.{frame}
use Rattle.sb_frames.specs.Streams.{Stream, open_with, shut}
use Rattle.sb_frames.specs.Connections.{Connection, new_connection}
use Rattle.sb_session.specs.Received.{delta_in}
use Rattle.sb_views.specs.declared.event.Event.{Event}
use Rattle.sb_views.specs.declared.event.Event.TheVariants.{Applied}
use Rattle.sb_directory.specs.Seats.{Seat, Begins}
use Rattle.sb_directory.specs.Serving.{IsStill}
use Rattle.sb_handlers.specs.Forgetting.{kept_blocks}

-- the seat makes one event: it takes the blocks of the delta that are of no forgotten owner
pub record Enters (names : List (List ℕ)) (blocks : List Block) (old new : Seat) : Type 0 where
  pub history : List Event
  pub ends : List BlockEnd
  pub begins : Begins history old
  pub last_call : new.last_call ≡ history ++ Applied (kept_blocks names blocks) ends ∷ []
  pub events : new.events ≡ old.events + 1
  pub seen : IsPrefix old.seen new.seen

-- a delta is entered; by any other message the seat makes no event
abbrev pub EntersAny : List (List ℕ) → Option (List Block) → Seat → Seat → Type 0
EntersAny names None old new = IsStill old new
EntersAny names (Some blocks) old new = Enters names blocks old new

-- the deltas of these messages are entered, each once, in their order, and the seat makes no other event
abbrev pub EntersAll : List (List ℕ) → List Message → Seat → Seat → Type 0
EntersAll names [] old new = IsStill old new
EntersAll names (message ∷ messages) old new = (mid : Seat) × EntersAny names (delta_in message) old mid × EntersAll names messages mid new

-- the bytes that were held and read are the frames of the messages that were heard, and then what was not heard; and the seat makes
-- the events of these messages alone
pub record HearsOpen (names : List (List ℕ)) (begun : List ℕ) (old new : Connection) (before after : Seat) : Type 0 where
  pub bytes : List ℕ
  pub rest : List ℕ
  pub messages : List Message
  pub consumed : Consumes old.input new.input bytes
  pub heard : begun ++ bytes ≡ flat_map frame messages ++ rest
  pub entered : EntersAll names messages before after

-- over a connection that is closed after a faulty frame nothing is heard
abbrev pub HearsFrom : List (List ℕ) → Stream → Connection → Connection → Seat → Seat → Type 0
HearsFrom names (open_with begun) old new before after = HearsOpen names begun old new before after
HearsFrom names shut old new before after = after ≡ before

abbrev pub Hears : List (List ℕ) → Connection → Connection → Seat → Seat → Type 0
Hears names old new before after = HearsFrom names old.stream old new before after

-- a session over this input, of which nothing was read before
abbrev pub HearsInput : List (List ℕ) → Option (List ℕ) → Seat → Seat → Type 0
HearsInput names input before after =
    (output : Option (List ℕ)) × (left : ℕ) × (steps : ℕ) × (last : Connection) × Hears names (new_connection input output left steps) last before after

-- the seat made no event; it may have seen more
pub record IsLooking (old new : Seat) : Type 0 where
  pub seen : IsPrefix old.seen new.seen
  pub last_call : IsPrefix old.last_call new.last_call
  pub events : new.events ≡ old.events

-- a session of a worker: over which input, and its seat before and after
pub record Served : Type 0 where
  pub input : Option (List ℕ)
  pub before : Seat
  pub after : Seat

-- the seat serves one session after the other, each over an input of which that holds, and makes the events of these sessions alone
abbrev pub ServesEach : List (List ℕ) → (Option (List ℕ) → Type 0) → List Served → Seat → Seat → Type 0
ServesEach names gives [] old new = IsLooking old new
ServesEach names gives (s ∷ ss) old new =
    IsLooking old s.before × gives s.input × HearsInput names s.input s.before s.after × ServesEach names gives ss s.after new

abbrev pub ServesOnly : List (List ℕ) → (Option (List ℕ) → Type 0) → Seat → Seat → Type 0
ServesOnly names gives old new = (served : List Served) × ServesEach names gives served old new

-- each of these seats does so
abbrev pub EachServes : List (List ℕ) → (Option (List ℕ) → Type 0) → List Seat → List Seat → Type 0
EachServes names gives old new = (k : ℕ) (d : Seat) → k < length old → ServesOnly names gives (slice_index_or old k d) (slice_index_or new k d)
