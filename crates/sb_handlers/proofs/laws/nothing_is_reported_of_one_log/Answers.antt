use Rattle.sb_handlers.proofs.Falls.{nothing_is_reported}
use Rattle.sb_handlers.proofs.laws.nothing_is_reported_of_one_log.Goals as goal

pub returns : goal.returns
returns c = nothing_is_reported
