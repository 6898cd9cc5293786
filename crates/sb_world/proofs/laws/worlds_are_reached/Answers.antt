use Rattle.sb_world.proofs.Reaching.{reach_step, reach_run}
use Rattle.sb_world.proofs.laws.worlds_are_reached.Goals as goal

pub returns : goal.returns
returns c = record { step = reach_step; run = reach_run }
