-- The calls that change a node, and what is true of them.
use Rattle.std.specs.Prelude.{ℕ, List, [], ◌∷◌}
use Rattle.std.specs.List.{flat_map}
use Rattle.sb_types.specs.declared.entry.Write.{Write}
use Rattle.sb_types.specs.Records.{Entry, Block}
use Rattle.sb_types.specs.Runs.{Stands, IsBlock}
use Rattle.sb_types.specs.Writes.{Written, Honest}
use Rattle.sb_holdings.specs.declared.ends.BlockEnd.{BlockEnd}
use Rattle.sb_holdings.specs.Nodes.{Node, NodeEvent, Wrote, replay_node}
use Rattle.sb_holdings.specs.Treats.{took_each}

-- the node took a committed write of its own, or a delta whose blocks ended this way
pub data Call : Type 0 where
  TookOwn : Entry → Call
  Applied : List Block → List BlockEnd → Call

abbrev pub events_of : Call → List NodeEvent
events_of (TookOwn e) = Wrote e ∷ []
events_of (Applied blocks ends) = took_each blocks ends

abbrev pub replay_calls : Node → List Call → Node
replay_calls node calls = replay_node node (flat_map events_of calls)

abbrev pub AreBlocks : List Block → Type 0
AreBlocks blocks = (b : Block) → Stands blocks b → IsBlock b

abbrev pub AreHonest : (List ℕ → List Write) → List Block → Type 0
AreHonest writes blocks = (b : Block) → Stands blocks b → Honest (writes b.owner) b

abbrev pub IsCall : Call → Type 0
IsCall (TookOwn e) = Unit {0}
IsCall (Applied blocks ends) = AreBlocks blocks

-- a committed write, or honest blocks, however they end
abbrev pub TrueCall : (List ℕ → List Write) → List ℕ → Call → Type 0
TrueCall writes me (TookOwn e) = Written (writes me) e
TrueCall writes me (Applied blocks ends) = AreHonest writes blocks

abbrev pub AreCalls : List Call → Type 0
AreCalls calls = (call : Call) → Stands calls call → IsCall call

abbrev pub AreTrue : (List ℕ → List Write) → List ℕ → List Call → Type 0
AreTrue writes me calls = (call : Call) → Stands calls call → TrueCall writes me call
