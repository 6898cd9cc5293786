use Rattle.sb_handlers.proofs.LeavingOut.{blocks_out, blocks_kept}
use Rattle.sb_run.proofs.laws.forgotten_owners_stay_out.Goals as goal

pub returns-clause-out : goal.returns-clause-out
returns-clause-out c = blocks_out

pub returns-clause-all : goal.returns-clause-all
returns-clause-all c = blocks_kept
