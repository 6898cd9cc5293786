use Rattle.sb_run.proofs.threads.NodeContext.answer_one.Goals as goal

pub returns-in-Control-clause-answers : goal.returns-in-Control-clause-answers
returns-in-Control-clause-answers g c = rw c.in-Control.is c.answer_caller.ensures.answers
