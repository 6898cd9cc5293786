use Rattle.sb_budget.proofs.OfferLemmas.{offer_is, offer_honest}
use Rattle.sb_budget.proofs.laws.offers_are_honest.Goals as goal

pub returns-clause-offered : goal.returns-clause-offered
returns-clause-offered c = λ writes t number owner front rest first i h offered s. offer_honest owner t number front rest first i offered s writes h

pub returns-clause-is : goal.returns-clause-is
returns-clause-is c = λ t number owner front rest first i offered s. offer_is owner t number front rest first i offered s
