use Rattle.sb_node.proofs.Truth.{are_events, all_true, delta_blocks}
use Rattle.sb_node.proofs.laws.deltas_keep_truth.Goals as goal

pub returns-clause-holds : goal.returns-clause-holds
returns-clause-holds c = λ writes node blocks ends is are t honest. c.nodes_hold.ensures.holds writes node _ is (are_events blocks ends are) t (all_true writes node.held.me blocks ends honest)

pub returns-clause-is : goal.returns-clause-is
returns-clause-is c = λ node blocks ends is are. c.nodes_hold.ensures.is node _ is (are_events blocks ends are)

pub returns-clause-blocks : goal.returns-clause-blocks
returns-clause-blocks c = λ blocks is b s. c.holdings_make_nodes.ensures.block b (delta_blocks blocks is b s)
