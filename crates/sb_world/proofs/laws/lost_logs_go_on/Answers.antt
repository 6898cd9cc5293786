use Rattle.sb_world.proofs.Clearing.{goes_on}
use Rattle.sb_world.proofs.laws.lost_logs_go_on.Goals as goal

pub returns : goal.returns
returns c = goes_on
