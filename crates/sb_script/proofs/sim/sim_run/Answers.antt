use Rattle.sb_script.proofs.Told.{told_kept}
use Rattle.sb_script.proofs.sim.sim_run.Goals as goal

pub returns-clause-told : goal.returns-clause-told
returns-clause-told g c = told_kept c.in_ok-ending.ending c.args.detail _ _ _ c.in_ok-ending.ensures.told c.in_ok-finished.ensures.written
