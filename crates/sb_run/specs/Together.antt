-- Runs of nodes that give each other deltas, and what happens to them all, in one order.
use Rattle.std.specs.Prelude.{◌≡◌, ℕ, ◌==◌, if◌then◌else◌, List, [], ◌∷◌, ◌++◌, Ok}
use Rattle.std.specs.List.{flat_map}
use mathlib.Core.List.{IsPrefix}
use Rattle.sb_types.specs.declared.entry.Write.{Write}
use Rattle.sb_types.specs.Records.{Block, Settings}
use Rattle.sb_types.specs.Runs.{Stands}
use Rattle.sb_types.specs.Writes.{Written}
use Rattle.sb_holdings.specs.Nodes.{Node, IsNode, NodeHolds}
use Rattle.sb_digest.specs.Digests.{Digest}
use Rattle.sb_session.specs.Handlers.{gives}
use Rattle.sb_views.specs.declared.event.Event.{Event}
use Rattle.sb_views.specs.declared.event.Event.TheVariants.{TookOwn, Applied, Purged}
use Rattle.sb_directory.specs.Serving.{AnswersAfter}

-- an event of one of the runs, each of which has a number
pub record RunEvent : Type 0 where
  pub run : ℕ
  pub event : Event

-- the event, if it is of this run
abbrev pub in_run : ℕ → RunEvent → List Event
in_run run h = if h.run == run then h.event ∷ [] else []

-- all that happened in this run: its history
abbrev pub history_of : ℕ → List RunEvent → List Event
history_of run all = flat_map (in_run run) all

-- each run opened with what is true of the writes, as it does with what its log holds
abbrev pub AreOpened : (List ℕ → List Write) → (ℕ → Node) → Type 0
AreOpened writes opening = (run : ℕ) → IsNode (opening run) × NodeHolds writes (opening run)

-- when all this had happened, some run could give this delta in answer to some digest
abbrev pub CanGive : (ℕ → Node) → (ℕ → Settings) → List RunEvent → List Block → Type 0
CanGive opening settings all blocks =
    (run : ℕ) × (digest : Digest) × AnswersAfter (opening run) (settings run) (history_of run all) (gives digest (Ok blocks))

-- the block is in a delta that some run could give by then
abbrev pub GivenBy : (ℕ → Node) → (ℕ → Settings) → List RunEvent → Block → Type 0
GivenBy opening settings all b =
    (earlier : List RunEvent) × (given : List Block) × IsPrefix earlier all × CanGive opening settings earlier given × Stands given b

-- after all this a run may take a write of its owner, and blocks each of which is in a delta that some run could give by then: late, again, in
-- any order, without others, or never. And it may purge its own table
abbrev pub MayHappen : (List ℕ → List Write) → (ℕ → Node) → (ℕ → Settings) → List RunEvent → ℕ → Event → Type 0
MayHappen writes opening settings all run (TookOwn e) = Written (writes (opening run).held.me) e
MayHappen writes opening settings all run (Applied blocks ends) = (b : Block) → Stands blocks b → GivenBy opening settings all b
MayHappen writes opening settings all run (Purged floor) = Unit {0}

-- each of these events came when it could
abbrev pub HappenInTurn : (List ℕ → List Write) → (ℕ → Node) → (ℕ → Settings) → List RunEvent → Type 0
HappenInTurn writes opening settings all =
    (earlier : List RunEvent) (h : RunEvent) (later : List RunEvent) → earlier ++ h ∷ later ≡ all → MayHappen writes opening settings earlier h.run h.event
