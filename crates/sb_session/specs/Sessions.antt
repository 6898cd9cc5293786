-- A session, and which messages it refuses.
use Rattle.std.specs.Prelude.{ℕ, nat_eq, if◌then◌else◌, List, Option, Some, None}
use Rattle.std.specs.Cmp.Lexicographic.{pointwise}
use Rattle.sb_types.specs.declared.fault.Fault.{Fault}
use Rattle.sb_types.specs.declared.fault.Fault.TheVariants as faults
use Rattle.sb_types.specs.declared.format.TheConstants.{KIND_ASK, KIND_ROWS, KIND_PUT, KIND_DONE, KIND_REFUSED, KIND_ASK_STATUS, KIND_NODE_STATUS, KIND_ASK_CHANGE, KIND_NOTICE, KIND_ASK_AGES, KIND_AGES}
use Rattle.sb_codec.specs.declared.message.hello.Hello.{Hello}
use Rattle.sb_codec.specs.declared.message.Message.{Message}
use Rattle.sb_codec.specs.declared.message.Message.TheVariants as kinds
use Rattle.sb_session.specs.declared.session.Phase.{Phase}
use Rattle.sb_session.specs.declared.session.Phase.TheVariants.{Waiting, Greeted, Closed}

-- the own cluster and name, how far the session has come, and where its next digest begins
pub record Session : Type 0 where
  pub cluster : List ℕ
  pub me : List ℕ
  pub phase : Phase
  pub cursor : Option (List ℕ)

abbrev pub session_of : List ℕ → List ℕ → Phase → Option (List ℕ) → Session
session_of cluster me phase cursor = record { cluster = cluster; me = me; phase = phase; cursor = cursor }

-- the session of these two names, as it begins
abbrev pub new_session : List ℕ → List ℕ → Session
new_session cluster me = session_of cluster me Waiting None

abbrev pub in_phase : Phase → Session → Session
in_phase phase s = session_of s.cluster s.me phase s.cursor

-- the session whose next digest begins there
abbrev pub with_cursor : Session → Option (List ℕ) → Session
with_cursor s cursor = session_of s.cluster s.me s.phase cursor

-- who speaks
abbrev pub hello_of : Session → Message
hello_of s = kinds.Hello (record { cluster = s.cluster; node = s.me })

-- why the first Hello is refused: another cluster is looked for first, then the own name
abbrev pub greeting_refusal : Session → Hello → Option Fault
greeting_refusal s hello =
    if pointwise nat_eq hello.cluster s.cluster then (if pointwise nat_eq hello.node s.me then Some faults.SameName else None) else Some faults.WrongCluster

-- why a Hello is refused
abbrev pub hello_refusal : Phase → Session → Hello → Option Fault
hello_refusal Waiting s hello = greeting_refusal s hello
hello_refusal Greeted s hello = Some faults.SecondHello
hello_refusal Closed s hello = Some faults.Closed

-- why a digest, a delta or a Bye is refused
abbrev pub turn_refusal : Phase → Option Fault
turn_refusal Waiting = Some faults.NoHello
turn_refusal Greeted = None
turn_refusal Closed = Some faults.Closed

-- why a message that belongs to a control socket is refused
abbrev pub kind_refusal : Phase → ℕ → Option Fault
kind_refusal Waiting kind = Some (faults.UnknownKind kind)
kind_refusal Greeted kind = Some (faults.UnknownKind kind)
kind_refusal Closed kind = Some faults.Closed

-- why a message is refused, before a handler is asked anything; nothing where it is not
abbrev pub refusal_of : Session → Message → Option Fault
refusal_of s (kinds.Hello hello) = hello_refusal s.phase s hello
refusal_of s (kinds.Digest theirs) = turn_refusal s.phase
refusal_of s (kinds.Delta blocks) = turn_refusal s.phase
refusal_of s (kinds.Bye reason) = turn_refusal s.phase
refusal_of s (kinds.Ask asked) = kind_refusal s.phase KIND_ASK
refusal_of s (kinds.Rows rows) = kind_refusal s.phase KIND_ROWS
refusal_of s (kinds.Put wanted) = kind_refusal s.phase KIND_PUT
refusal_of s (kinds.Done version) = kind_refusal s.phase KIND_DONE
refusal_of s (kinds.Refused fault) = kind_refusal s.phase KIND_REFUSED
refusal_of s (kinds.AskStatus after) = kind_refusal s.phase KIND_ASK_STATUS
refusal_of s (kinds.NodeStatus told) = kind_refusal s.phase KIND_NODE_STATUS
refusal_of s (kinds.AskChange asked) = kind_refusal s.phase KIND_ASK_CHANGE
refusal_of s (kinds.Notice notice) = kind_refusal s.phase KIND_NOTICE
refusal_of s kinds.AskAges = kind_refusal s.phase KIND_ASK_AGES
refusal_of s (kinds.Ages ages) = kind_refusal s.phase KIND_AGES
