-- The page of a node's status that answers a question.
use Rattle.std.specs.Prelude.{◌≡◌, ℕ, ◌+◌, ◌-◌, Bool, true, false, ◌&&◌, nat_eq, nat_le, nat_lt, if◌then◌else◌, List, [], ◌∷◌, length, drop, Option, Some, None, Result, Ok, Err}
use Rattle.sb_types.specs.declared.fault.Fault.{Fault}
use Rattle.sb_types.specs.declared.fault.Fault.TheVariants.{Malformed}
use Rattle.sb_types.specs.declared.format.TheConstants.{HEADER_LENGTH, KIND_NODE_STATUS}
use Rattle.sb_types.specs.declared.limits.TheConstants.{PAYLOAD_MOST}
use Rattle.sb_codec.specs.declared.message.node_identity.NodeIdentity.{NodeIdentity}
use Rattle.sb_codec.specs.declared.message.figure.FigureKind.TheVariants.{CaughtUp, LogFault, Conflict}
use Rattle.sb_codec.specs.Figures.{number_of, value_at}
use Rattle.sb_codec.specs.Records.{Figure, Peer, NodeStatus, status_of}
use Rattle.sb_codec.specs.Lengths.{peer_length, status_length}
use Rattle.sb_codec.specs.Limits.{are_status_parts}

-- the longest run from the first peer on that takes no more than this room
abbrev pub fitting : ℕ → List Peer → List Peer
fitting room [] = []
fitting room (p ∷ ps) = if nat_le (peer_length p) room then p ∷ fitting (room - peer_length p) ps else []

abbrev pub room_behind : ℕ → ℕ → ℕ
room_behind budget head = if nat_le head PAYLOAD_MOST then budget - (HEADER_LENGTH + head) else 0

-- the room for peers in a frame within the budget
abbrev pub room_for_peers : ℕ → NodeIdentity → List Figure → ℕ
room_for_peers budget identity figures = room_behind budget (status_length (status_of true identity figures []))

-- the longest run of these peers for which there is room, and whether more of them follow
abbrev pub status_with : NodeIdentity → List Figure → ℕ → List Peer → NodeStatus
status_with identity figures room asked = let run = fitting room asked in status_of (nat_lt (length run) (length asked)) identity figures run

-- the page for the peers after the first so many
abbrev pub status_page : NodeIdentity → List Figure → List Peer → ℕ → ℕ → NodeStatus
status_page identity figures peers after budget = status_with identity figures (room_for_peers budget identity figures) (drop after peers)

abbrev pub if_status : NodeStatus → Result NodeStatus Fault
if_status status = if are_status_parts status then Ok status else Err (Malformed KIND_NODE_STATUS)

-- there is such a number
abbrev pub is_told : ℕ → Option ℕ → Bool
is_told wanted None = false
is_told wanted (Some number) = nat_eq number wanted

-- it is caught up, its log takes writes, and it saw no other node write under its name
abbrev pub is_ready : List Figure → Bool
is_ready figures = is_told 1 (value_at (number_of CaughtUp) figures) && is_told 0 (value_at (number_of LogFault) figures) && is_told 0 (value_at (number_of Conflict) figures)
