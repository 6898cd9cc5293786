use Rattle.sb_node.proofs.node.NodeCore.deltas.Goals as goal
