use Rattle.sb_holdings.proofs.Filling.{some_writes, table_writes}
use Rattle.sb_holdings.proofs.contents.tables_are_contents.Goals as goal

pub returns-clause-plain : goal.returns-clause-plain
returns-clause-plain c = some_writes

pub returns-clause-content : goal.returns-clause-content
returns-clause-content c = table_writes
