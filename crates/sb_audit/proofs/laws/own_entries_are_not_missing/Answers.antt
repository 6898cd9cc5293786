use Rattle.sb_audit.proofs.Truth.{not_missing}
use Rattle.sb_audit.proofs.laws.own_entries_are_not_missing.Goals as goal

pub returns : goal.returns
returns c = not_missing
