use Rattle.std.proofs.Common.{inr}
use Rattle.sb_run.proofs.threads.NodeContext.answer_caller.Goals as goal

pub returns-clause-answers : goal.returns-clause-answers
returns-clause-answers g c = let answered = c.write_answer-seat.ensures.answers in inr (answered.0, answered.1)
