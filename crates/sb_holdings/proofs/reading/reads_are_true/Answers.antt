use Rattle.sb_holdings.proofs.Shown.{read_written, read_exact}
use Rattle.sb_holdings.proofs.reading.reads_are_true.Goals as goal

pub returns-clause-written : goal.returns-clause-written
returns-clause-written c = read_written

pub returns-clause-exact : goal.returns-clause-exact
returns-clause-exact c = λ writes t e i h w l last. read_exact writes t e i h w last l
