use Rattle.std.proofs.Common.{[]}
use Rattle.sb_holdings.proofs.Steps.{later}
use Rattle.sb_holdings.proofs.Nodes.{replay_at_step}
use Rattle.sb_holdings.proofs.laws.nodes_hold.Goals as goal

pub returns-clause-holds : goal.returns-clause-holds
returns-clause-holds c = λ writes node events is are t true owner. (replay_at_step writes node events is are owner).holds true (t owner)

pub returns-clause-later : goal.returns-clause-later
returns-clause-later c = λ node events is each owner. later _ _ (is owner).shown (replay_at_step (λ _. []) node events is each owner).onward

pub returns-clause-is : goal.returns-clause-is
returns-clause-is c = λ node events is each owner. (replay_at_step (λ _. []) node events is each owner).is
