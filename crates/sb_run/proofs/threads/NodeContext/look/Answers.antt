use Rattle.sb_run.proofs.threads.NodeContext.look.Goals as goal

pub returns-clause-page : goal.returns-clause-page
returns-clause-page g c = rw c.settings.ensures at c.look_up-reply.ensures
