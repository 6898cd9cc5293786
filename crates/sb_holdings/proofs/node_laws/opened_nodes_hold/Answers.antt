use Rattle.std.proofs.Common.{sym, subst}
use Rattle.sb_types.specs.Writes.{Holds}
use Rattle.sb_holdings.proofs.Content.{content_tells}
use Rattle.sb_holdings.proofs.Opened.{opened-holds, IsHoldings-alone}
use Rattle.sb_holdings.proofs.node_laws.opened_nodes_hold.Goals as goal

pub returns-clause-table : goal.returns-clause-table
returns-clause-table c = opened-holds

pub returns-clause-content : goal.returns-clause-content
returns-clause-content c = λ writes me floor t low same. opened-holds writes me t (subst (Holds (writes me)) (sym same) (content_tells (writes me) floor low))

pub returns-clause-holdings : goal.returns-clause-holdings
returns-clause-holdings c = IsHoldings-alone
