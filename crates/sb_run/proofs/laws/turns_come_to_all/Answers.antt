use Rattle.sb_run.proofs.PeerTurns.{within_all}
use Rattle.sb_run.proofs.laws.turns_come_to_all.Goals as goal

pub returns : goal.returns
returns c = record { each = within_all }
