-- What a running node answers to the question how it is.
use Rattle.std.proofs.Common.{◌≡◌, ℕ, List, inl, ap}
use Rattle.sb_types.specs.Records.{Settings}
use Rattle.sb_holdings.specs.Nodes.{Node}
use Rattle.sb_codec.specs.declared.message.Message.TheVariants as kinds
use Rattle.sb_codec.specs.Records.{Peer, NodeStatus}
use Rattle.sb_query.specs.Statuses.{status_page}
use Rattle.sb_directory.specs.Seats.{Seat}
use Rattle.sb_run.specs.declared.facts.Facts.{Facts}
use Rattle.sb_run.specs.declared.peers.Peer as dialed
use Rattle.sb_run.specs.Entering.{IsLooking}
use Rattle.sb_run.specs.Facts.{figures_of}
use Rattle.sb_run.specs.StatusReplies.{identity_of, AreFacts, IsStatusReply}

-- a page of facts answers the question how a node is
pub page_answers : (opening : Node) (settings : Settings) (before after : Seat) (asked : ℕ) (facts : Facts) (own : List dialed.Peer) (peers : List Peer) (release : List ℕ) (page : NodeStatus)
    → IsLooking before after → AreFacts opening own peers after facts
    → page ≡ status_page (identity_of opening.held.me settings.cluster release) (figures_of facts) peers asked settings.budget
    → IsStatusReply opening settings before asked after (kinds.NodeStatus page)
page_answers opening settings before after asked facts own peers release page looks are same =
    (looks, inl (record { facts = facts; own = own; peers = peers; release = release; are_facts = are; page = ap kinds.NodeStatus same }))
