use Rattle.sb_holdings.proofs.Lasting.{tells_later}
use Rattle.sb_holdings.proofs.laws.truth_lasts.Goals as goal

pub returns-clause-table : goal.returns-clause-table
returns-clause-table c = λ writes more t h. tells_later writes more h

pub returns-clause-block : goal.returns-clause-block
returns-clause-block c = λ writes more b h. tells_later writes more h
