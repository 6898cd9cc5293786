-- The answer to the question how a node is.
use Rattle.std.specs.Prelude.{◌≡◌, ◌⊎◌, ℕ, Bool, nat_lt, if◌then◌else◌, List, length, map, codes}
use Rattle.std.specs.List.{list_all}
use mathlib.Core.List.{IsPrefix}
use Rattle.sb_types.specs.declared.fault.Fault.TheVariants.{NoMemory}
use Rattle.sb_types.specs.Faults.{number_of}
use Rattle.sb_types.specs.Records.{Settings}
use Rattle.sb_types.specs.Text.{is_short_text}
use Rattle.sb_holdings.specs.Nodes.{Node}
use Rattle.sb_codec.specs.declared.message.Message.{Message}
use Rattle.sb_codec.specs.declared.message.Message.TheVariants as kinds
use Rattle.sb_codec.specs.declared.message.node_identity.NodeIdentity.{NodeIdentity}
use Rattle.sb_codec.specs.Records.{Peer}
use Rattle.sb_node.specs.Cores.{own_keys}
use Rattle.sb_views.specs.declared.event.Event.{Event}
use Rattle.sb_views.specs.NodeViews.{NodeView, upto_of}
use Rattle.sb_views.specs.Histories.{node_after}
use Rattle.sb_views.specs.Publishing.{IsView}
use Rattle.sb_query.specs.Statuses.{status_page}
use Rattle.sb_directory.specs.Seats.{Seat}
use Rattle.sb_run.specs.declared.peers.Peer as dialed
use Rattle.sb_run.specs.declared.facts.Facts.{Facts}
use Rattle.sb_run.specs.Entering.{IsLooking}
use Rattle.sb_run.specs.Facts.{figures_of}
use Rattle.sb_run.specs.Turns.{code_of}

abbrev pub dash : List ℕ
dash = codes "-"

-- a dash in place of a text that is not a short one
abbrev pub short_text : List ℕ → List ℕ
short_text text = if is_short_text text then text else dash

abbrev pub peer_status : dialed.Peer → Peer
peer_status p = record { path = short_text p.path.now; state = code_of p.state; round = p.round }

abbrev pub identity_of : List ℕ → List ℕ → List ℕ → NodeIdentity
identity_of node cluster release = record { node = node; cluster = cluster; release = release }

-- each peer has had a round
abbrev pub have_had_rounds : List Peer → Bool
have_had_rounds peers = list_all (λ p. nat_lt 0 p.round) peers

-- the number of keys of its own after a history that is no later than this call
abbrev pub IsCounted : Node → List Event → ℕ → Type 0
IsCounted opening last_call keys = (history : List Event) × IsPrefix history last_call × (keys ≡ own_keys (node_after opening history))

-- the version up to which its own writes are shown to who has seen this
abbrev pub IsShownUpTo : Node → List Event → ℕ → Type 0
IsShownUpTo opening seen version = (view : NodeView) × IsView (node_after opening seen) view × (version ≡ upto_of view opening.held.me)

-- What a node says of itself, with a seat that is so afterwards. The peers are all those that a schedule dials, as they are. It is caught up
-- if and only if each of them has had a round. The conflict is that of the last call, the keys are those of a call before, and the version is
-- what the seat has seen.
pub record AreFacts (opening : Node) (own : List dialed.Peer) (peers : List Peer) (after : Seat) (facts : Facts) : Type 0 where
  pub statuses : peers ≡ map peer_status own
  pub caught_up : facts.is_caught_up ≡ have_had_rounds peers
  pub count : facts.peers ≡ length peers
  pub conflict : facts.conflict ≡ (node_after opening after.last_call).conflict
  pub keys : IsCounted opening after.last_call facts.keys
  pub version : IsShownUpTo opening after.seen facts.version

-- the page of a status with facts of the node
pub record IsStatusPage (opening : Node) (settings : Settings) (after : Seat) (asked : ℕ) (reply : Message) : Type 0 where
  pub facts : Facts
  pub own : List dialed.Peer
  pub peers : List Peer
  pub release : List ℕ
  pub are_facts : AreFacts opening own peers after facts
  pub page : reply ≡ kinds.NodeStatus (status_page (identity_of opening.held.me settings.cluster release) (figures_of facts) peers asked settings.budget)

-- such a page, or that there was no memory; the seat may have seen more, and made no event
abbrev pub IsStatusReply : Node → Settings → Seat → ℕ → Seat → Message → Type 0
IsStatusReply opening settings before asked after reply =
    IsLooking before after × (IsStatusPage opening settings after asked reply ⊎ (reply ≡ kinds.Refused (number_of NoMemory)))
