use Rattle.sb_budget.proofs.OfferedLemmas.{offered_is, offered_holds, offered_own}
use Rattle.sb_budget.proofs.laws.offered_tables_hold.Goals as goal

pub returns-clause-is : goal.returns-clause-is
returns-clause-is c = offered_is

pub returns-clause-holds : goal.returns-clause-holds
returns-clause-holds c = λ writes digest owner t is h. offered_holds digest owner t is writes h

pub returns-clause-own : goal.returns-clause-own
returns-clause-own c = λ digest owner t is far. offered_own digest owner t is far
