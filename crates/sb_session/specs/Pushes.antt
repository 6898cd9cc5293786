-- A push: what an end says that sends a delta which nobody asked for, and what it hears.
use Rattle.std.specs.Prelude.{◌≡◌, ℕ, List, [], ◌∷◌, ◌++◌, Option, Some, None, unwrap_or, Result, Ok, Err}
use Rattle.std.specs.List.{flat_map}
use Rattle.std.specs.Io.KnownBytes.{Keeps, Appends, Consumes, IsAtEnd}
use Rattle.sb_types.specs.declared.fault.Fault.{Fault}
use Rattle.sb_types.specs.declared.fault.Fault.TheVariants.{NoHello, Closed}
use Rattle.sb_types.specs.declared.format.TheConstants.{REASON_ROUNDS_DONE}
use Rattle.sb_types.specs.Records.{Block}
use Rattle.sb_codec.specs.declared.message.Message.{Message}
use Rattle.sb_codec.specs.declared.message.Message.TheVariants as kinds
use Rattle.sb_frames.specs.Frames.{frame, whole, front_of}
use Rattle.sb_frames.specs.Streams.{Stream, open_with, shut}
use Rattle.sb_frames.specs.Connections.{Connection}
use Rattle.sb_frames.specs.Receiving.{Stops}
use Rattle.sb_session.specs.declared.session.Phase.TheVariants as phases
use Rattle.sb_session.specs.declared.pushing.PushEnd.{PushEnd}
use Rattle.sb_session.specs.declared.pushing.PushEnd.TheVariants.{AfterHello, BeforeHello}
use Rattle.sb_session.specs.Sessions.{Session, hello_of, in_phase, refusal_of}
use Rattle.sb_session.specs.Telling.{CutShort}

-- all that it says: its Hello, the delta, and Bye
abbrev pub pushed_by : Session → List Block → List Message
pushed_by s blocks = hello_of s ∷ kinds.Delta blocks ∷ kinds.Bye REASON_ROUNDS_DONE ∷ []

-- why a message is refused where nothing but a Hello may come: as in any session, and any other message for being no Hello
abbrev pub first_refusal : Session → Message → Option Fault
first_refusal s (kinds.Hello hello) = refusal_of s (kinds.Hello hello)
first_refusal s message = Some (unwrap_or (refusal_of s message) NoHello)

-- refused, and closed from then on; or the Hello has come
abbrev pub TakesFirstUnless : {X : Type 0} → Option Fault → Session → Result X Fault → Session → Type 0
TakesFirstUnless (Some fault) s result s' = (result ≡ Err fault) × (s' ≡ in_phase phases.Closed s)
TakesFirstUnless None s (Ok _) s' = s' ≡ in_phase phases.Greeted s
TakesFirstUnless None s (Err fault) s' = ⊥

abbrev pub TakesFirst : {X : Type 0} → Session → Message → Result X Fault → Session → Type 0
TakesFirst s message result s' = TakesFirstUnless (first_refusal s message) s result s'

-- how it ends once all is said, over all that was held and read: before the peer's Hello, or after it; by a first message that
-- is refused, or by one after the Hello; or where no more can be read, before the Hello or after it
pub data Awaiting (s : Session) (heard : List ℕ) (before : ℕ) (new : Connection) (result : Result PushEnd Fault) : Type 0 where
  before_hello : result ≡ Ok BeforeHello → heard ≡ [] → IsAtEnd new.input → new.stream ≡ open_with [] → Awaiting s heard before new result
  after_hello : (hello : Message) → result ≡ Ok AfterHello → heard ≡ frame hello → first_refusal s hello ≡ None → IsAtEnd new.input → new.stream ≡ open_with []
      → Awaiting s heard before new result
  at_first : (fault : Fault) (message : Message) (rest : List ℕ) → result ≡ Err fault → front_of heard ≡ whole message rest → first_refusal s message ≡ Some fault
      → new.stream ≡ open_with rest → Awaiting s heard before new result
  at_second : (hello message : Message) (behind rest : List ℕ) → result ≡ Err Closed → front_of heard ≡ whole hello behind → first_refusal s hello ≡ None
      → front_of behind ≡ whole message rest → new.stream ≡ open_with rest → Awaiting s heard before new result
  at_reading_first : (fault : Fault) → result ≡ Err fault → Stops fault heard new.stream new.input before new.left → Awaiting s heard before new result
  at_reading_second : (fault : Fault) (hello : Message) (rest : List ℕ) → result ≡ Err fault → heard ≡ frame hello ++ rest → first_refusal s hello ≡ None
      → Stops fault rest new.stream new.input before new.left → Awaiting s heard before new result

-- what is read is heard after what is held
pub record AwaitsOpen (s : Session) (held : List ℕ) (old new : Connection) (result : Result PushEnd Fault) : Type 0 where
  pub bytes : List ℕ
  pub consumed : Consumes old.input new.input bytes
  pub ends : Awaiting s (held ++ bytes) old.left new result

abbrev pub AwaitsFrom : Session → Stream → Connection → Connection → Result PushEnd Fault → Type 0
AwaitsFrom s (open_with held) old new result = AwaitsOpen s held old new result
AwaitsFrom s shut old new result = (result ≡ Err Closed) × (new.stream ≡ shut) × Keeps old.input new.input × (new.left ≡ old.left)

abbrev pub Awaits : Session → Connection → Connection → Result PushEnd Fault → Type 0
Awaits s old new result = AwaitsFrom s old.stream old new result

-- all is said, and then the peer is heard; or it is cut short, and nothing is read
pub data PushesOpen (s : Session) (blocks : List Block) (held : List ℕ) (old new : Connection) (result : Result PushEnd Fault) : Type 0 where
  heard : Appends old.output new.output (flat_map frame (pushed_by s blocks)) → AwaitsOpen s held old new result → PushesOpen s blocks held old new result
  cut : (fault : Fault) → result ≡ Err fault → CutShort old.output new.output (pushed_by s blocks) fault → new.input ≡ old.input → new.stream ≡ open_with held → new.left ≡ old.left
      → PushesOpen s blocks held old new result

-- over a connection that is closed after a faulty frame nothing is said or heard
abbrev pub PushesFrom : Session → List Block → Stream → Connection → Connection → Result PushEnd Fault → Type 0
PushesFrom s blocks (open_with held) old new result = PushesOpen s blocks held old new result
PushesFrom s blocks shut old new result = (result ≡ Err Closed) × (new ≡ old)

abbrev pub Pushes : Session → List Block → Connection → Connection → Result PushEnd Fault → Type 0
Pushes s blocks old new result = PushesFrom s blocks old.stream old new result
