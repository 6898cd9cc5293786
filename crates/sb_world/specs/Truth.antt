-- What is true of each state of a run.
use Rattle.std.specs.Prelude.{◌≡◌, ℕ, ◌≤◌, true, List, ◌++◌, length, IfSome}
use Rattle.sb_types.specs.declared.entry.Write.{Write}
use Rattle.sb_types.specs.Records.{Table, Settings}
use Rattle.sb_types.specs.Runs.{Stands}
use Rattle.sb_types.specs.Writes.{Written}
use Rattle.sb_holdings.specs.Contents.{content_table}
use Rattle.sb_holdings.specs.Nodes.{Node, opened_node, replay_node, AreNodeEvents, AllTrueAt, IsNode, NodeHolds}
use Rattle.sb_codec.specs.declared.message.Message.{Message}
use Rattle.sb_codec.specs.Messages.{is_message}
use Rattle.sb_frames.specs.Frames.{frame}
use Rattle.sb_log.specs.Records.{Committed}
use Rattle.sb_node.specs.Talks.{TrueMessage}
use Rattle.sb_world.specs.Connections.{Connection}
use Rattle.sb_world.specs.Lines.{IsTrueConnection}
use Rattle.sb_world.specs.Places.{Place, place_at}
use Rattle.sb_world.specs.States.{Past, State}
use Rattle.sb_world.specs.Wires.{AreTrueWires}

-- the frame of a message within the budget; if that is a delta, each of its blocks is honest
pub record IsTrueFrame (writes : List ℕ → List Write) (budget : ℕ) (bytes : List ℕ) : Type 0 where
  pub message : Message
  pub limits : is_message message ≡ true
  pub laid : bytes ≡ frame message
  pub honest : TrueMessage writes message
  pub fits : length bytes ≤ budget

-- the content of a log of these writes, purged up to the floor that it has
pub record IsContentOf (writes : List Write) (t : Table) : Type 0 where
  pub floor : t.floor ≤ length writes
  pub content : t ≡ content_table t.floor writes

-- a node that opened with the content that its owner's log had then: that of a prefix of its writes, purged up to some floor
pub record IsOpening (writes : List Write) (me : List ℕ) (opened : Node) : Type 0 where
  pub front : List Write
  pub rest : List Write
  pub floor : ℕ
  pub all : writes ≡ front ++ rest
  pub low : floor ≤ length front
  pub node : opened ≡ opened_node me (content_table floor front)
  pub is : IsNode opened

pub record IsTruePlace (writes : List ℕ → List Write) (past : Past) (of_world : Settings) (p : Place) : Type 0 where
  pub owner : p.log.owner ≡ p.me
  -- if a fault of its store closed the log, nothing is promised about its content
  pub content : p.log.is_open ≡ true → IsContentOf (writes p.me) p.log.content
  pub settings : p.core.settings ≡ of_world
  pub me : p.core.node.held.me ≡ p.me
  pub opening : IsOpening (writes p.me) p.me past.opening
  -- what it holds is what its committed writes and honest blocks have left since it opened, and nothing else
  pub replay : p.core.node ≡ replay_node past.opening past.since
  pub events : AreNodeEvents past.since
  pub honest : AllTrueAt writes p.me past.since
  pub is : IsNode p.core.node
  pub holds : NodeHolds writes p.core.node
  pub waiting : (c : Committed) → Stands p.waiting c → (c.owner ≡ p.me) × Written (writes p.me) c.entry

pub record IsTrueState (s : State) : Type 0 where
  pub places : (name : List ℕ) → IfSome (place_at s.now.places name) (λ p. IsTruePlace s.writes (s.past p.me) s.now.settings p)
  pub frames : (bytes : List ℕ) → Stands s.now.sent bytes → IsTrueFrame s.writes s.now.settings.budget bytes
  pub connections : (c : Connection) → Stands s.now.connections c → IsTrueConnection s.now.sent c
  -- the messages taken are those of the bytes that came, and these bytes are of frames that were sent
  pub wires : AreTrueWires s.now.sent s.now.connections s.wires
