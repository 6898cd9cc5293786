use Rattle.sb_run.proofs.Paging.{page_later}
use Rattle.sb_run.proofs.pool.Serving.answer_ask.Goals as goal

pub returns-clause-answers : goal.returns-clause-answers
returns-clause-answers g c = (c.reply_to_ask-seat.result.1, rw c.settings.ensures at c.reply_to_ask-seat.ensures, c.send-sent.ensures)

pub returns-clause-later : goal.returns-clause-later
returns-clause-later g c = page_later _ _ _ _ _ _ c.reply_to_ask-seat.ensures
