use Rattle.std.specs.FinMap.{entries}
use Rattle.sb_digest.specs.Digests.{covers}
use Rattle.sb_budget.specs.Available.{number_for, offered_table}
use Rattle.sb_budget.proofs.OfferLemmas.{uncovered}
use Rattle.sb_budget.proofs.OfferedLemmas.{offered_nothing}
use Rattle.sb_budget.proofs.HeldLemmas.{available_of_owner}
use Rattle.sb_budget.proofs.laws.available_by_number.Goals as goal

pub returns-clause-covered : goal.returns-clause-covered
returns-clause-covered c = λ held digest owner reached. available_of_owner (covers digest) (offered_table digest) (number_for digest) (offered_nothing digest) held.owners owner reached

pub returns-clause-others : goal.returns-clause-others
returns-clause-others c = λ held digest owner other. uncovered (covers digest) (offered_table digest) (number_for digest) (entries held.owners) owner other
