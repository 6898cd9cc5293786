-- What comes of a message that a session takes, and of a digest that it asks with, over the steps of a handler.
use Rattle.std.specs.Prelude.{◌≡◌, ℕ, Bool, true, false, ◌⊎◌, List, [], ◌∷◌, Option, Some, None, Result, Ok, Err}
use Rattle.sb_types.specs.declared.fault.Fault.{Fault}
use Rattle.sb_types.specs.declared.fault.Fault.TheVariants as faults
use Rattle.sb_types.specs.Records.{Block}
use Rattle.sb_digest.specs.Digests as digests
use Rattle.sb_codec.specs.declared.message.Message.{Message}
use Rattle.sb_codec.specs.declared.message.Message.TheVariants.{Hello, Digest, Delta, Bye, Ask, Rows, Put, Done, Refused, AskStatus, NodeStatus, AskChange, Notice, AskAges, Ages}
use Rattle.sb_session.specs.declared.session.Phase.{Phase}
use Rattle.sb_session.specs.declared.session.Phase.TheVariants as phases
use Rattle.sb_session.specs.declared.replies.Replies.{Replies}
use Rattle.sb_session.specs.declared.replies.Replies.TheVariants.{Greeted, Answered, Exchanged, Applied, Ended}
use Rattle.sb_session.specs.Handlers.{Act, tells, gives, applies}
use Rattle.sb_session.specs.Sessions.{Session, in_phase, with_cursor, refusal_of}

-- the faults of a message that is taken, and of a digest that is asked with
abbrev pub is_session_fault : Fault → Bool
is_session_fault faults.Closed = true
is_session_fault (faults.UnknownKind kind) = true
is_session_fault faults.NoHello = true
is_session_fault faults.SecondHello = true
is_session_fault faults.WrongCluster = true
is_session_fault faults.SameName = true
is_session_fault faults.TurnsSpent = true
is_session_fault faults.NoMemory = true
is_session_fault _ = false

-- the messages that are to be sent, in order
abbrev pub messages_of : Replies → List Message
messages_of Greeted = []
messages_of (Answered blocks) = Delta blocks ∷ []
messages_of (Exchanged blocks digest) = Delta blocks ∷ Digest digest ∷ []
messages_of (Applied ends) = []
messages_of (Ended reason) = []

-- why the peer said Bye, where it did
abbrev pub bye_of : Replies → Option ℕ
bye_of Greeted = None
bye_of (Answered blocks) = None
bye_of (Exchanged blocks digest) = None
bye_of (Applied ends) = None
bye_of (Ended reason) = Some reason

-- a digest that wants none in answer: the delta for it, or the handler's refusal
abbrev pub Answers : {H : Type 0} → (H → Act → H → Type 0) → Session → H → digests.Digest → Result Replies Fault → Session → H → Type 0
Answers step s h theirs (Ok (Answered blocks)) s' h' = (s' ≡ s) × step h (gives theirs (Ok blocks)) h'
Answers step s h theirs (Err fault) s' h' = (s' ≡ s) × step h (gives theirs (Err fault)) h'
Answers step s h theirs (Ok _) s' h' = ⊥

-- one of the two calls was refused
abbrev pub RefusesEither : {H : Type 0} → (H → Act → H → Type 0) → Session → H → digests.Digest → Fault → H → Type 0
RefusesEither {H} step s h theirs fault h' =
    step h (gives theirs (Err fault)) h'
    ⊎ ((blocks : List Block) × (mid : H) × step h (gives theirs (Ok blocks)) mid × step mid (tells s.cursor false (Err fault)) h')

-- a digest that wants one in answer: the delta for it and the own next digest, or the handler's refusal of either
abbrev pub Exchanges : {H : Type 0} → (H → Act → H → Type 0) → Session → H → digests.Digest → Result Replies Fault → Session → H → Type 0
Exchanges {H} step s h theirs (Ok (Exchanged blocks digest)) s' h' =
    (s' ≡ with_cursor s digest.until) × ((mid : H) × step h (gives theirs (Ok blocks)) mid × step mid (tells s.cursor false (Ok digest)) h')
Exchanges step s h theirs (Err fault) s' h' = (s' ≡ s) × RefusesEither step s h theirs fault h'
Exchanges step s h theirs (Ok _) s' h' = ⊥

abbrev pub AnswersDigest : {H : Type 0} → (H → Act → H → Type 0) → Session → H → digests.Digest → Bool → Result Replies Fault → Session → H → Type 0
AnswersDigest step s h theirs true result s' h' = Exchanges step s h theirs result s' h'
AnswersDigest step s h theirs false result s' h' = Answers step s h theirs result s' h'

-- a delta is applied, or the handler's refusal
abbrev pub Applies : {H : Type 0} → (H → Act → H → Type 0) → Session → H → List Block → Result Replies Fault → Session → H → Type 0
Applies step s h blocks (Ok (Applied ends)) s' h' = (s' ≡ s) × step h (applies blocks (Ok ends)) h'
Applies step s h blocks (Err fault) s' h' = (s' ≡ s) × step h (applies blocks (Err fault)) h'
Applies step s h blocks (Ok _) s' h' = ⊥

-- the first Hello
abbrev pub Greets : Option Fault → Session → Result Replies Fault → Session → Type 0
Greets (Some fault) s result s' = (result ≡ Err fault) × (s' ≡ in_phase phases.Closed s)
Greets None s result s' = (result ≡ Ok Greeted) × (s' ≡ in_phase phases.Greeted s)

-- a message that is not refused
abbrev pub TakesUp : {H : Type 0} → (H → Act → H → Type 0) → Session → H → Message → Result Replies Fault → Session → H → Type 0
TakesUp step s h (Hello hello) result s' h' = (result ≡ Ok Greeted) × (s' ≡ in_phase phases.Greeted s) × (h' ≡ h)
TakesUp step s h (Digest theirs) result s' h' = AnswersDigest step s h theirs theirs.want result s' h'
TakesUp step s h (Delta blocks) result s' h' = Applies step s h blocks result s' h'
TakesUp step s h (Bye reason) result s' h' = (result ≡ Ok (Ended reason)) × (s' ≡ in_phase phases.Closed s) × (h' ≡ h)
TakesUp step s h (Ask asked) result s' h' = ⊥
TakesUp step s h (Rows rows) result s' h' = ⊥
TakesUp step s h (Put wanted) result s' h' = ⊥
TakesUp step s h (Done version) result s' h' = ⊥
TakesUp step s h (Refused fault) result s' h' = ⊥
TakesUp step s h (AskStatus after) result s' h' = ⊥
TakesUp step s h (NodeStatus told) result s' h' = ⊥
TakesUp step s h (AskChange asked) result s' h' = ⊥
TakesUp step s h (Notice notice) result s' h' = ⊥
TakesUp step s h AskAges result s' h' = ⊥
TakesUp step s h (Ages ages) result s' h' = ⊥

-- refused, and closed from then on; or taken up
abbrev pub TakesUnless : {H : Type 0} → Option Fault → (H → Act → H → Type 0) → Session → H → Message → Result Replies Fault → Session → H → Type 0
TakesUnless (Some fault) step s h message result s' h' = (result ≡ Err fault) × (s' ≡ in_phase phases.Closed s) × (h' ≡ h)
TakesUnless None step s h message result s' h' = TakesUp step s h message result s' h'

abbrev pub Takes : {H : Type 0} → (H → Act → H → Type 0) → Session → H → Message → Result Replies Fault → Session → H → Type 0
Takes step s h message result s' h' = TakesUnless (refusal_of s message) step s h message result s' h'

-- the next digest, which wants one in answer, of a session that is not closed; or the handler's refusal
abbrev pub AsksWith : {H : Type 0} → (H → Act → H → Type 0) → Session → H → Result Message Fault → Session → H → Type 0
AsksWith step s h (Ok (Digest digest)) s' h' = (s' ≡ with_cursor s digest.until) × step h (tells s.cursor true (Ok digest)) h'
AsksWith step s h (Err fault) s' h' = (s' ≡ s) × step h (tells s.cursor true (Err fault)) h'
AsksWith step s h (Ok _) s' h' = ⊥

abbrev pub AsksIn : {H : Type 0} → Phase → (H → Act → H → Type 0) → Session → H → Result Message Fault → Session → H → Type 0
AsksIn phases.Waiting step s h result s' h' = AsksWith step s h result s' h'
AsksIn phases.Greeted step s h result s' h' = AsksWith step s h result s' h'
AsksIn phases.Closed step s h result s' h' = (result ≡ Err faults.Closed) × (s' ≡ s) × (h' ≡ h)

abbrev pub Asks : {H : Type 0} → (H → Act → H → Type 0) → Session → H → Result Message Fault → Session → H → Type 0
Asks step s h result s' h' = AsksIn s.phase step s h result s' h'
