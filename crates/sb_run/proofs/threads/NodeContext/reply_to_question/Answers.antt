use Rattle.sb_run.proofs.threads.NodeContext.reply_to_question.Goals as goal

pub returns-in-Ask : goal.returns-in-Ask
returns-in-Ask g c = rw c.in-Ask.is (rw c.settings.ensures at c.reply_to_ask.ensures)
