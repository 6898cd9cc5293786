use Rattle.sb_run.proofs.Paging.{page_looking}
use Rattle.sb_run.proofs.pool.Serving.answer_counted.Goals as goal

pub returns-then-is_err-clause-entered : goal.returns-then-is_err-clause-entered
returns-then-is_err-clause-entered g c = page_looking _ _ _ _ _ _ c.answer_ask-seat.ensures.answers.1

pub returns-else-is_err-clause-entered : goal.returns-else-is_err-clause-entered
returns-else-is_err-clause-entered g c = page_looking _ _ _ _ _ _ c.answer_ask-seat.ensures.answers.1

pub returns-then-is_err-clause-answers : goal.returns-then-is_err-clause-answers
returns-then-is_err-clause-answers g c =
    let answered = c.answer_ask-seat.ensures.answers in (answered.0, answered.1, (c.answer_ask-seat.result.1, answered.2))

pub returns-else-is_err-clause-answers : goal.returns-else-is_err-clause-answers
returns-else-is_err-clause-answers g c =
    let answered = c.answer_ask-seat.ensures.answers in (answered.0, answered.1, (c.answer_ask-seat.result.1, answered.2))
