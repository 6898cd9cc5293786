use Rattle.sb_budget.proofs.HonestLemmas.{cut_is, cut_honest}
use Rattle.sb_budget.proofs.laws.cuts_are_honest.Goals as goal

pub returns-clause-honest : goal.returns-clause-honest
returns-clause-honest c = λ writes t number budget items delta b is h cut s offered. cut_honest t number budget items delta b is cut s offered writes h

pub returns-clause-is : goal.returns-clause-is
returns-clause-is c = λ t number budget items delta b is cut s offered. cut_is t number budget items delta b is cut s offered
