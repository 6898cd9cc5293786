use Rattle.sb_audit.proofs.Passing.{other_foreign}
use Rattle.sb_audit.proofs.laws.foreign_entries_are_found.Goals as goal

pub returns-clause-foreign : goal.returns-clause-foreign
returns-clause-foreign c = other_foreign
