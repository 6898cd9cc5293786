use Rattle.std.proofs.Common.{refl, sym}
use Rattle.sb_run.proofs.threads.NodeContext.write_answer.Goals as goal

pub returns-in-AskStatus-clause-answers : goal.returns-in-AskStatus-clause-answers
returns-in-AskStatus-clause-answers g c =
    (c.reply_to_ask_status-seat.result.1, rw (sym c.message.ensures, c.in-AskStatus.is) (refl, refl, c.reply_to_ask_status-seat.ensures), c.send-sent.ensures)

pub returns-in-AskAges-clause-answers : goal.returns-in-AskAges-clause-answers
returns-in-AskAges-clause-answers g c =
    (c.reply_to_ask_ages.result, rw (sym c.message.ensures, c.in-AskAges.is) (refl, refl, refl, c.reply_to_ask_ages.ensures), c.send-sent-in-AskAges.ensures)
