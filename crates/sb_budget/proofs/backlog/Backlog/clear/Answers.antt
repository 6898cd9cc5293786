use Rattle.sb_budget.proofs.BacklogLemmas.{from_nothing}
use Rattle.sb_budget.proofs.backlog.Backlog.clear.Goals as goal

pub returns : goal.returns
returns c = from_nothing c.clear.new.self.entries c.clear.ensures.empty c.clear.ensures.ordered
