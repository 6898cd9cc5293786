use Rattle.sb_listing.proofs.Telling.{merged-tells}
use Rattle.sb_listing.proofs.laws.changes_tell_all.Goals as goal

pub returns-clause-set : goal.returns-clause-set
returns-clause-set c = λ earlier later up rising. (merged-tells later rising earlier up).0

pub returns-clause-gone : goal.returns-clause-gone
returns-clause-gone c = λ earlier later up rising. (merged-tells later rising earlier up).1
