use Rattle.std.proofs.Common.{refl, sym}
use Rattle.sb_run.proofs.control.reply_to.Goals as goal

pub returns-in-Ask-clause-answers : goal.returns-in-Ask-clause-answers
returns-in-Ask-clause-answers g c = rw (sym c.in-Err.ensures.other.0) (rw c.in-Ask.is (refl, refl, rw c.settings.ensures at c.reply_to_ask.ensures))
