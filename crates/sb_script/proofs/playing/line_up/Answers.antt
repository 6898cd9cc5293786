use Rattle.std.proofs.Common.{Ok, Err, refl}
use Rattle.std.proofs.lemmas.Result.{err_from_is_err_and}
use Rattle.sb_script.proofs.playing.line_up.Goals as goal

pub returns-in_err-step : goal.returns-in_err-step
returns-in_err-step c =
    let p = err_from_is_err_and c.from_residual.result c.from_residual.ensures.1 in
    record { lined = rw (c.in-Some.is, p.1, p.2) (Err c.in_err-step.field-0.0, c.in_err-step.ensures.step, refl) }

pub returns-in_ok-step : goal.returns-in_ok-step
returns-in_ok-step c = record { lined = rw c.in-Some.is (Ok c.in_ok-step.field-0, c.in_ok-step.ensures.step, refl) }
