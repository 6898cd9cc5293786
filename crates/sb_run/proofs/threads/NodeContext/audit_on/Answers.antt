use Rattle.sb_run.proofs.Hellos.{talks_greet}
use Rattle.sb_run.proofs.threads.NodeContext.audit_on.Goals as goal

pub returns-clause-greets : goal.returns-clause-greets
returns-clause-greets g c = talks_greet _ _ _ _ _ _ _ _ _ _ c.session_of-session.ensures c.dial.ensures.talks
