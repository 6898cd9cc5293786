use Rattle.sb_handlers.proofs.Falls.{reported_is_found}
use Rattle.sb_handlers.proofs.laws.reported_versions_are_found.Goals as goal

pub returns : goal.returns
returns c = reported_is_found
