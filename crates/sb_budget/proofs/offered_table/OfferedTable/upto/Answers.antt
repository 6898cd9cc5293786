use Rattle.std.proofs.Common.{subst, arith}
use Rattle.sb_table.specs.Floors.{IsKeptTable}
use Rattle.sb_table.proofs.Keeping.{kept-raised}
use Rattle.sb_budget.proofs.offered_table.OfferedTable.upto.Goals as goal

pub returns-clause-table : goal.returns-clause-table
returns-clause-table c =
    let s = c.self.inside in
    subst IsKeptTable c.self.view_is (kept-raised s.table.now.held s.floor s.table.now c.upto.ensures.table (omega arith) c.self.invariant.1)
