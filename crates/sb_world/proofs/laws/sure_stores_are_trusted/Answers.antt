use Rattle.sb_world.specs.States.{last_of}
use Rattle.sb_world.proofs.Running.{sure_run, sure_clean}
use Rattle.sb_world.proofs.Staying.{sure_over, sure_through}
use Rattle.sb_world.proofs.laws.sure_stores_are_trusted.Goals as goal

pub returns : goal.returns
returns c = record {
  step = sure_over;
  passes = sure_through;
  run = λ old events answers states run sure. sure_clean (last_of old states).now.places (sure_run old events answers states run sure);
}
