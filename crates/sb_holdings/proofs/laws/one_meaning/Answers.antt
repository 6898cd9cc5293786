use Rattle.sb_holdings.proofs.ByVersion.{by_version, by_entry}
use Rattle.sb_holdings.proofs.laws.one_meaning.Goals as goal

pub returns : goal.returns
returns c = λ writes floor after upto entries. (by_version writes, by_entry writes)
