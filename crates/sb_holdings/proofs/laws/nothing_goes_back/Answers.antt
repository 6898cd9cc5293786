use Rattle.std.proofs.Common.{[]}
use Rattle.sb_holdings.proofs.Steps.{later}
use Rattle.sb_holdings.proofs.Replays.{replay_step}
use Rattle.sb_holdings.proofs.laws.nothing_goes_back.Goals as goal

pub returns-clause-later : goal.returns-clause-later
returns-clause-later c = λ h events i is. later h.shown _ i.shown (replay_step [] h events i is).onward

pub returns-clause-is : goal.returns-clause-is
returns-clause-is c = λ h events i is. (replay_step [] h events i is).is
