-- What the peers of a node may lack, and what a node pushes to them.
use Rattle.std.specs.Prelude.{◌≡◌, ◌≢◌, ℕ, ◌+◌, Bool, true, false, ◌&&◌, ◌||◌, ◌==◌, nat_lt, List, [], ◌∷◌, length, Option, Some, None, slice_get, IfSome, Ok}
use Rattle.std.specs.FinMap.{empty, entries}
use Rattle.sb_types.specs.Lengths.{delta_length}
use Rattle.sb_types.specs.Records.{Block, Settings}
use Rattle.sb_holdings.specs.Nodes.{Node}
use Rattle.sb_digest.specs.Digests.{Digest}
use Rattle.sb_budget.specs.Backlogs.{Backlog, with_version}
use Rattle.sb_session.specs.Handlers.{gives}
use Rattle.sb_views.specs.declared.event.Event.{Event}
use Rattle.sb_directory.specs.Serving.{AnswersAfter}
use Rattle.sb_run.specs.declared.backlogs.PeerBacklog.{PeerBacklog}

-- with each of these owners added; one that is there keeps its version
abbrev pub with_each : Backlog → List (List ℕ × ℕ) → Backlog
with_each backlog [] = backlog
with_each backlog (p ∷ ps) = with_each (with_version backlog p.0 p.1) ps

-- the owners of both, with the version of the first where an owner is in both
abbrev pub joined : Backlog → Backlog → Backlog
joined first second = with_each first (entries second)

-- joined, if the first is known; or nobody knows it any more
abbrev pub IsJoined : Option Backlog → Backlog → Option Backlog → Type 0
IsJoined (Some first) second result = IfSome result (λ all. all ≡ joined first second)
IsJoined None second result = result ≡ None

-- nothing, if anything is known
abbrev pub emptied : Option Backlog → Option Backlog
emptied (Some backlog) = Some empty
emptied None = None

-- from its begin on, unless another round began before
abbrev pub begun : Option Backlog → Option Backlog
begun (Some backlog) = Some backlog
begun None = Some empty

-- what is known after a round: what is news since it began, if it was made to its end
abbrev pub known_after : Bool → Option Backlog → Option Backlog → Option Backlog
known_after true known (Some since) = Some since
known_after true known None = known
known_after false known since = known

-- a round is under way, if there is news since one
abbrev pub is_under_way : Option Backlog → Bool
is_under_way (Some since) = true
is_under_way None = false

-- what was lacking was told
abbrev pub with_taken : PeerBacklog → PeerBacklog
with_taken backlog = record { known = emptied backlog.known; since_round = backlog.since_round; is_awaited = backlog.is_awaited }

-- news waits until the round ends, if one is under way
abbrev pub with_wait : PeerBacklog → PeerBacklog
with_wait backlog = record { known = backlog.known; since_round = backlog.since_round; is_awaited = is_under_way backlog.since_round }

abbrev pub with_round : PeerBacklog → PeerBacklog
with_round backlog = record { known = backlog.known; since_round = begun backlog.since_round; is_awaited = backlog.is_awaited }

abbrev pub after_round : Bool → PeerBacklog → PeerBacklog
after_round is_done backlog = record { known = known_after is_done backlog.known backlog.since_round; since_round = None; is_awaited = false }

abbrev pub forgotten : PeerBacklog → PeerBacklog
forgotten backlog = record { known = None; since_round = backlog.since_round; is_awaited = backlog.is_awaited }

-- what may be lacking of this peer changes so, and of no other
abbrev pub Changes : ℕ → (PeerBacklog → PeerBacklog) → List PeerBacklog → List PeerBacklog → Type 0
Changes index change old new =
    IfSome (slice_get old index) (λ before. slice_get new index ≡ Some (change before))
    × ((other : ℕ) → other ≢ index → slice_get new other ≡ slice_get old other)

-- what was taken is lacking again, beside what is news since; or nobody knows it any more
abbrev pub GivesBack : ℕ → Backlog → List PeerBacklog → List PeerBacklog → Type 0
GivesBack index taken old new =
    IfSome (slice_get old index) (λ before. IfSome (slice_get new index) (λ after.
    IfSome after.known (λ all. IfSome before.known (λ since. all ≡ joined taken since)) × (after.since_round ≡ before.since_round) × (after.is_awaited ≡ before.is_awaited)))
    × ((other : ℕ) → other ≢ index → slice_get new other ≡ slice_get old other)

-- after some of what happened the node answers some digest by these blocks
abbrev pub IsAnswered : Node → Settings → List Block → Type 0
IsAnswered opening settings blocks =
    (history : List Event) × (digest : Digest) × AnswersAfter opening settings history (gives digest (Ok blocks))

-- a payload of so many bytes is pushed: it is short, or no longer than the node's own digests; and its frame has room for one more item
abbrev pub fits_push : ℕ → ℕ → ℕ → Bool
fits_push bytes digests budget = (nat_lt bytes 1025 || nat_lt bytes (digests + 1)) && nat_lt (bytes + 652) budget

-- the blocks are of so many owners
abbrev pub are_of_all : ℕ → List Block → Bool
are_of_all owners blocks = length blocks == owners

-- news of so many owners is pushed: it has a block of each, is short enough, and nothing of it was cut off
abbrev pub can_push : List Block → ℕ → ℕ → ℕ → Bool
can_push blocks owners digests budget = are_of_all owners blocks && fits_push (delta_length blocks) digests budget
