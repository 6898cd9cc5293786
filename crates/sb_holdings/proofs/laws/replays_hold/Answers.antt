use Rattle.sb_holdings.proofs.Replays.{replay_step}
use Rattle.sb_holdings.proofs.laws.replays_hold.Goals as goal

pub returns : goal.returns
returns c = λ writes h events i are t true. (replay_step writes h events i are).holds true t
