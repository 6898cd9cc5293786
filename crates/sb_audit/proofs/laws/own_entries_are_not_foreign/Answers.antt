use Rattle.sb_audit.proofs.Truth.{written_not_foreign, block_not_foreign, table_not_foreign}
use Rattle.sb_audit.proofs.laws.own_entries_are_not_foreign.Goals as goal

pub returns-clause-written : goal.returns-clause-written
returns-clause-written c = written_not_foreign

pub returns-clause-block : goal.returns-clause-block
returns-clause-block c = block_not_foreign

pub returns-clause-table : goal.returns-clause-table
returns-clause-table c = table_not_foreign
