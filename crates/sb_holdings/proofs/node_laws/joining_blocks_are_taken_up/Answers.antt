use Rattle.sb_holdings.proofs.TakenUp.{taken_up, staged_up}
use Rattle.sb_holdings.proofs.node_laws.joining_blocks_are_taken_up.Goals as goal

pub returns-clause-shown : goal.returns-clause-shown
returns-clause-shown c = taken_up

pub returns-clause-staged : goal.returns-clause-staged
returns-clause-staged c = staged_up
