use Rattle.sb_run.proofs.threads.NodeContext.answer_worker.Goals as goal

pub returns-clause-answers : goal.returns-clause-answers
returns-clause-answers g c = (c.reply_to_put-reply.result, rw c.over_http-asked.ensures at c.reply_to_put-reply.ensures.put)
