use Rattle.sb_budget.proofs.BacklogLemmas.{from_nothing}
use Rattle.sb_budget.proofs.backlog.Backlog.new.Goals as goal

pub returns : goal.returns
returns c = from_nothing c.new.result.entries c.new.ensures.empty c.new.ensures.ordered
