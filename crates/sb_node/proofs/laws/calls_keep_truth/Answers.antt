use Rattle.sb_node.proofs.Truth.{calls_are, calls_true}
use Rattle.sb_node.proofs.laws.calls_keep_truth.Goals as goal

pub returns-clause-holds : goal.returns-clause-holds
returns-clause-holds c = λ writes node calls is are t true. c.nodes_hold.ensures.holds writes node _ is (calls_are calls are) t (calls_true writes node.held.me calls true)

pub returns-clause-later : goal.returns-clause-later
returns-clause-later c = λ node calls is are. c.nodes_hold.ensures.later node _ is (calls_are calls are)

pub returns-clause-is : goal.returns-clause-is
returns-clause-is c = λ node calls is are. c.nodes_hold.ensures.is node _ is (calls_are calls are)
