use Rattle.sb_run.proofs.pool.Serving.answer_request.Goals as goal

pub returns-clause-answers : goal.returns-clause-answers
returns-clause-answers g c = (c.reply_to-seat.result.1, c.reply_to-seat.ensures.answers, c.send-sent.ensures)
