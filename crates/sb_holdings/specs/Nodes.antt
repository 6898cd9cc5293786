-- A node, and what happens to it.
use Rattle.std.specs.Prelude.{ℕ, max, List, [], ◌∷◌, Option, Some, None}
use Rattle.sb_types.specs.declared.entry.Write.{Write}
use Rattle.sb_types.specs.Records.{Entry, Table, Block, Holder}
use Rattle.sb_types.specs.Runs.{Stands, IsBlock}
use Rattle.sb_types.specs.Writes.{Written, Honest, IsHolder, HolderHolds}
use Rattle.sb_holdings.specs.declared.ends.BlockEnd.{BlockEnd}
use Rattle.sb_holdings.specs.declared.ends.BlockEnd.TheVariants.{Own, OwnAhead, Gap, Stale, OwnersFull, Taken, TooManyKeys, NoMemory}
use Rattle.sb_holdings.specs.Held.{Held, holder_of, held_after_write, purged_own, held_after_block}
use Rattle.sb_holdings.specs.Plain.{table_holder, held_of}
use Rattle.sb_holdings.specs.Progress.{Later}

-- what the node holds, and the greatest version under its name that it did not write
pub record Node : Type 0 where
  pub held : Held
  pub conflict : Option ℕ

-- a node that has just opened: its own name with this table, and no other owner
abbrev pub opened_node : List ℕ → Table → Node
opened_node me table = record { held = held_of me ((me, table_holder table) ∷ []); conflict = None }

-- what the node holds of an owner
abbrev pub held_by : Node → List ℕ → Holder
held_by node owner = holder_of node.held.owners owner

abbrev pub greater_version : Option ℕ → ℕ → Option ℕ
greater_version None version = Some version
greater_version (Some known) version = Some (max known version)

-- only a block of the own name that reaches above the own held version raises it
abbrev pub conflict_after : Option ℕ → BlockEnd → Option ℕ
conflict_after known (OwnAhead upto) = greater_version known upto
conflict_after known Own = known
conflict_after known Gap = known
conflict_after known Stale = known
conflict_after known OwnersFull = known
conflict_after known (Taken n) = known
conflict_after known (TooManyKeys n) = known
conflict_after known (NoMemory n) = known

abbrev pub node_after_block : Node → Block → BlockEnd → Node
node_after_block node b end = record { held = held_after_block node.held b end; conflict = conflict_after node.conflict end }

-- the node wrote, or it took a block that ended this way, or its own table was purged up to a floor
pub data NodeEvent : Type 0 where
  Wrote : Entry → NodeEvent
  Took : Block → BlockEnd → NodeEvent
  Purged : ℕ → NodeEvent

abbrev pub node_after_event : Node → NodeEvent → Node
node_after_event node (Wrote e) = record { held = held_after_write node.held e; conflict = node.conflict }
node_after_event node (Took b end) = node_after_block node b end
node_after_event node (Purged floor) = record { held = purged_own node.held floor; conflict = node.conflict }

abbrev pub replay_node : Node → List NodeEvent → Node
replay_node node [] = node
replay_node node (event ∷ events) = replay_node (node_after_event node event) events

abbrev pub IsNodeEvent : NodeEvent → Type 0
IsNodeEvent (Wrote e) = Unit {0}
IsNodeEvent (Took b end) = IsBlock b
IsNodeEvent (Purged floor) = Unit {0}

-- the node's own committed write, or an honest block; a purge needs nothing
abbrev pub TrueAt : (List ℕ → List Write) → List ℕ → NodeEvent → Type 0
TrueAt writes me (Wrote e) = Written (writes me) e
TrueAt writes me (Took b end) = Honest (writes b.owner) b
TrueAt writes me (Purged floor) = Unit {0}

abbrev pub AreNodeEvents : List NodeEvent → Type 0
AreNodeEvents events = (event : NodeEvent) → Stands events event → IsNodeEvent event

abbrev pub AllTrueAt : (List ℕ → List Write) → List ℕ → List NodeEvent → Type 0
AllTrueAt writes me events = (event : NodeEvent) → Stands events event → TrueAt writes me event

abbrev pub IsNode : Node → Type 0
IsNode node = (owner : List ℕ) → IsHolder (held_by node owner)

-- for each owner, what is held is true of its writes
abbrev pub NodeHolds : (List ℕ → List Write) → Node → Type 0
NodeHolds writes node = (owner : List ℕ) → HolderHolds (writes owner) (held_by node owner)

-- for no owner does what is known go back
abbrev pub NodeLater : Node → Node → Type 0
NodeLater old new = (owner : List ℕ) → Later (held_by old owner).shown (held_by new owner).shown
