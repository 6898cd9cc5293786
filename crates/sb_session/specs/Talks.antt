-- A whole talk: what one end hears and says, over the steps of its handler.
use Rattle.std.specs.Prelude.{◌≡◌, ℕ, ◌-◌, Bool, true, false, not, ◌==◌, List, [], ◌∷◌, ◌++◌, ◌⊎◌, Option, Some, None, Result, Ok, Err, IfOk}
use Rattle.std.specs.List.{flat_map}
use Rattle.std.specs.Io.KnownBytes.{Keeps, Appends, Consumes, IsAtEnd}
use Rattle.sb_types.specs.declared.fault.Fault.{Fault}
use Rattle.sb_types.specs.declared.fault.Fault.TheVariants.{Closed}
use Rattle.sb_types.specs.declared.format.TheConstants.{REASON_ROUNDS_DONE}
use Rattle.sb_codec.specs.declared.message.Message.{Message}
use Rattle.sb_codec.specs.declared.message.Message.TheVariants as kinds
use Rattle.sb_frames.specs.Frames.{frame, whole, front_of}
use Rattle.sb_frames.specs.Streams.{Stream, open_with, shut}
use Rattle.sb_frames.specs.Connections.{Connection}
use Rattle.sb_frames.specs.Receiving.{Stops}
use Rattle.sb_session.specs.declared.replies.Replies.{Replies}
use Rattle.sb_session.specs.declared.talk.Ended.{Ended}
use Rattle.sb_session.specs.declared.talk.Ended.TheVariants as endings
use Rattle.sb_session.specs.Handlers.{Act}
use Rattle.sb_session.specs.Sessions.{Session, hello_of}
use Rattle.sb_session.specs.Taking.{Takes, Asks, messages_of, bye_of}
use Rattle.sb_session.specs.Telling.{Says, CutShort}

-- one end of a talk: whether it is to speak unasked, the rounds that it still has (nothing where it only answers), its
-- session and its handler
pub record Party (H : Type 0) : Type 0 where
  pub speaks : Bool
  pub rounds : Option ℕ
  pub session : Session
  pub handler : H

abbrev pub party_of : {H : Type 0} → Bool → Option ℕ → Session → H → Party H
party_of speaks rounds s h = record { speaks = speaks; rounds = rounds; session = s; handler = h }

-- a digest that wants none in answer ends a round
abbrev pub ends_round : Message → Bool
ends_round (kinds.Hello hello) = false
ends_round (kinds.Digest theirs) = not theirs.want
ends_round (kinds.Delta blocks) = false
ends_round (kinds.Bye reason) = false
ends_round (kinds.Ask asked) = false
ends_round (kinds.Rows rows) = false
ends_round (kinds.Put wanted) = false
ends_round (kinds.Done version) = false
ends_round (kinds.Refused fault) = false
ends_round (kinds.AskStatus after) = false
ends_round (kinds.NodeStatus told) = false
ends_round (kinds.AskChange asked) = false
ends_round (kinds.Notice notice) = false
ends_round kinds.AskAges = false
ends_round (kinds.Ages ages) = false

-- the rounds that are left after a message, which may end one
abbrev pub rounds_after : Bool → Option ℕ → Option ℕ
rounds_after false rounds = rounds
rounds_after true None = None
rounds_after true (Some n) = Some (n - 1)

abbrev pub are_done : Option ℕ → Bool
are_done None = false
are_done (Some n) = n == 0

-- a message is heard; or this end speaks unasked
pub data Move : Type 0 where
  hears : Message → Move
  speaks : Move

-- what is said unasked: the next digest while rounds are left
abbrev pub SpeaksOn : {H : Type 0} → (H → Act → H → Type 0) → Bool → Session → H → List Message → Session → H → Type 0
SpeaksOn step true s h said s' h' = (said ≡ kinds.Bye REASON_ROUNDS_DONE ∷ []) × (s' ≡ s) × (h' ≡ h)
SpeaksOn step false s h said s' h' = (message : Message) × Asks step s h (Ok message) s' h' × (said ≡ message ∷ [])

-- and nothing by one that only answers
abbrev pub Speaks : {H : Type 0} → (H → Act → H → Type 0) → Option ℕ → Session → H → List Message → Session → H → Type 0
Speaks step None s h said s' h' = (said ≡ []) × (s' ≡ s) × (h' ≡ h)
Speaks step (Some n) s h said s' h' = SpeaksOn step (n == 0) s h said s' h'

-- a message that is heard is taken and answered, and may end a round; after the end of a round it is this end's turn to
-- speak, and so it is before anything is heard
abbrev pub Moves : {H : Type 0} → (H → Act → H → Type 0) → Party H → Move → List Message → Party H → Type 0
Moves step a (hears message) said b =
    (a.speaks ≡ false) × (are_done a.rounds ≡ false) × (b.speaks ≡ ends_round message) × (b.rounds ≡ rounds_after (ends_round message) a.rounds)
    × ((answer : Replies) × Takes step a.session a.handler message (Ok answer) b.session b.handler × (said ≡ messages_of answer))
Moves step a speaks said b =
    (a.speaks ≡ true) × (b.speaks ≡ false) × (b.rounds ≡ a.rounds) × Speaks step a.rounds a.session a.handler said b.session b.handler

-- the handler or the session refuses the move
abbrev pub Refuses : {H : Type 0} → (H → Act → H → Type 0) → Party H → Move → Fault → H → Type 0
Refuses step a (hears message) fault h =
    (a.speaks ≡ false) × (are_done a.rounds ≡ false) × ((s : Session) × Takes step a.session a.handler message (Err fault) s h)
Refuses step a speaks fault h =
    (a.speaks ≡ true) × (are_done a.rounds ≡ false) × ((s : Session) × Asks step a.session a.handler (Err fault) s h)

-- moves in turn, and all that is said
abbrev pub Run : {H : Type 0} → (H → Act → H → Type 0) → Party H → List Move → List Message → Party H → Type 0
Run step a [] said b = (said ≡ []) × (b ≡ a)
Run {H} step a (move ∷ moves) said b =
    (first : List Message) × (rest : List Message) × (mid : Party H) × Moves step a move first mid × Run step mid moves rest b × (said ≡ first ++ rest)

-- the messages that were heard
abbrev pub heard_in : List Move → List Message
heard_in [] = []
heard_in (hears message ∷ moves) = message ∷ heard_in moves
heard_in (speaks ∷ moves) = heard_in moves

-- what one end does in a talk: its moves in turn, all that they say, and the end after them
pub record Course {H : Type 0} (step : H → Act → H → Type 0) (a : Party H) : Type 0 where
  pub moves : List Move
  pub said : List Message
  pub last : Party H
  pub run : Run step a moves said last

-- it is the peer's turn to speak
abbrev pub Listens : {H : Type 0} → Party H → Type 0
Listens b = (b.speaks ≡ false) × (are_done b.rounds ≡ false)

-- the Hello and all that the moves say is written, and what was not heard is held
pub record Stays {H : Type 0} (a : Party H) (said : List Message) (held : List ℕ) (old new : Connection) : Type 0 where
  pub put_out : Appends old.output new.output (flat_map frame (hello_of a.session ∷ said))
  pub held_on : new.stream ≡ open_with held

-- where a talk is cut short: in its Hello, before any move; or in what its last move says, with the Hello and all that was
-- said before put out
pub data Cuts {H : Type 0} (step : H → Act → H → Type 0) (a : Party H) (course : Course step a) (old new : Option (List ℕ)) (fault : Fault) : Type 0 where
  in_hello : course.moves ≡ [] → CutShort old new (hello_of a.session ∷ []) fault → Cuts step a course old new fault
  in_last : (front : List Move) (move : Move) (before more : List Message) (now : Party H) (mid : Option (List ℕ)) → course.moves ≡ front ++ (move ∷ []) → course.said ≡ before ++ more
      → Run step a front before now → Moves step now move more course.last → Appends old mid (flat_map frame (hello_of a.session ∷ before)) → CutShort mid new more fault
      → Cuts step a course old new fault

-- how a talk ends, with the Hello and all that its moves say put out, but for what is cut short
pub data Ends {H : Type 0} (step : H → Act → H → Type 0) (a : Party H) (course : Course step a) (h : H) (held : List ℕ) (old new : Connection)
    (result : Result Ended Fault) : Type 0 where
  at_end : result ≡ Ok endings.End → Listens course.last → held ≡ [] → IsAtEnd new.input → h ≡ course.last.handler → Stays a course.said held old new
      → Ends step a course h held old new result
  at_bye : (reason : ℕ) (front : List Move) → result ≡ Ok (endings.Bye reason) → course.moves ≡ front ++ (hears (kinds.Bye reason) ∷ []) → h ≡ course.last.handler
      → Stays a course.said held old new → Ends step a course h held old new result
  at_rounds : result ≡ Ok endings.RoundsDone → course.last.speaks ≡ false → are_done course.last.rounds ≡ true → h ≡ course.last.handler → Stays a course.said held old new
      → Ends step a course h held old new result
  at_reading : (fault : Fault) → result ≡ Err fault → Listens course.last → Stops fault held new.stream new.input old.left new.left → h ≡ course.last.handler
      → Appends old.output new.output (flat_map frame (hello_of a.session ∷ course.said)) → Ends step a course h held old new result
  at_message : (fault : Fault) (message : Message) (rest : List ℕ) → result ≡ Err fault → front_of held ≡ whole message rest → Refuses step course.last (hears message) fault h
      → Stays a course.said rest old new → Ends step a course h held old new result
  at_speaking : (fault : Fault) → result ≡ Err fault → Refuses step course.last speaks fault h → Stays a course.said held old new → Ends step a course h held old new result
  at_writing : (fault : Fault) → result ≡ Err fault → Cuts step a course old.output new.output fault → h ≡ course.last.handler → new.stream ≡ open_with held
      → Ends step a course h held old new result

-- what was held and read is the frames of the messages that were heard, and then what is held; the moves are a run of the
-- handler's steps; and what was put out is the Hello and what the moves say
pub record TalksOpen {H : Type 0} (step : H → Act → H → Type 0) (a : Party H) (h : H) (begun : List ℕ) (old new : Connection) (result : Result Ended Fault) : Type 0 where
  pub bytes : List ℕ
  pub held : List ℕ
  pub course : Course step a
  pub consumed : Consumes old.input new.input bytes
  pub heard : begun ++ bytes ≡ flat_map frame (heard_in course.moves) ++ held
  pub ends : Ends step a course h held old new result

-- over a connection that is closed after a faulty frame nothing is said or heard
abbrev pub TalksFrom : {H : Type 0} → (H → Act → H → Type 0) → Party H → H → Stream → Connection → Connection → Result Ended Fault → Type 0
TalksFrom step a h (open_with begun) old new result = TalksOpen step a h begun old new result
TalksFrom step a h shut old new result = (result ≡ Err Closed) × (h ≡ a.handler) × (new ≡ old)

abbrev pub Talks : {H : Type 0} → (H → Act → H → Type 0) → Party H → H → Connection → Connection → Result Ended Fault → Type 0
Talks step a h old new result = TalksFrom step a h old.stream old new result

-- a message is taken and answered, or refused with nothing put out
abbrev pub Hearing : {H : Type 0} → (H → Act → H → Type 0) → Message → Session → H → Session → H → Option (List ℕ) → Option (List ℕ) → Result (Option ℕ) Fault → Type 0
Hearing step message s h s' h' old new result =
    ((answer : Replies) × Takes step s h message (Ok answer) s' h' × Says old new (messages_of answer) result × IfOk result (λ bye. bye ≡ bye_of answer))
    ⊎ ((fault : Fault) × (result ≡ Err fault) × Takes step s h message (Err fault) s' h' × Keeps old new)

-- what is to be said unasked is said, or the next digest is refused with nothing put out
abbrev pub Speaking : {H : Type 0} → (H → Act → H → Type 0) → Option ℕ → Session → H → Session → H → Option (List ℕ) → Option (List ℕ) → Result Bool Fault → Type 0
Speaking step rounds s h s' h' old new result =
    ((said : List Message) × Speaks step rounds s h said s' h' × Says old new said result × IfOk result (λ done. done ≡ are_done rounds))
    ⊎ ((fault : Fault) × (result ≡ Err fault) × (are_done rounds ≡ false) × Asks step s h (Err fault) s' h' × Keeps old new)
