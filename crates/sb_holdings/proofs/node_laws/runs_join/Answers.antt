use Rattle.sb_holdings.proofs.Nodes.{replay_node-append}
use Rattle.sb_holdings.proofs.node_laws.runs_join.Goals as goal

pub returns : goal.returns
returns c = replay_node-append
