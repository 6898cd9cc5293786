use Rattle.sb_budget.proofs.OfferLemmas.{available_of, uncovered, unnamed}
use Rattle.sb_budget.proofs.laws.available_by_owner.Goals as goal

pub returns-clause-covered : goal.returns-clause-covered
returns-clause-covered c = available_of

pub returns-clause-others : goal.returns-clause-others
returns-clause-others c = uncovered

pub returns-clause-unknown : goal.returns-clause-unknown
returns-clause-unknown c = unnamed
