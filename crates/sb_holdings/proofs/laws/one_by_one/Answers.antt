use Rattle.sb_holdings.proofs.Entering.{one_by_one}
use Rattle.sb_holdings.proofs.laws.one_by_one.Goals as goal

pub returns : goal.returns
returns c = one_by_one
