use Rattle.std.proofs.Common.{Ok, Err}
use Rattle.std.proofs.lemmas.Result.{err_from_is_err_and}
use Rattle.sb_script.proofs.Gives.{offers_nothing, offers_next}
use Rattle.sb_script.proofs.playing.offer.Goals as goal

pub returns-in_err-send : goal.returns-in_err-send
returns-in_err-send c =
    let p = err_from_is_err_and c.from_residual.result c.from_residual.ensures.1 in
    record { offered = rw (p.1, p.2) (offers_nothing _ _ _ _ c.in_err-send.field-0.0 c.in_err-send.ensures.sent) }

pub returns-in_err-send-2 : goal.returns-in_err-send-2
returns-in_err-send-2 c =
    let p = err_from_is_err_and c.from_residual-in_err-send-2.result c.from_residual-in_err-send-2.ensures.1 in
    record { offered = rw (p.1, p.2) (offers_next _ c.send.new.world _ _ _ c.in_ok-send.field-0 (Err c.in_err-send-2.field-0.0) c.in_ok-send.ensures.sent c.in_err-send-2.ensures.sent) }

pub returns : goal.returns
returns c =
    record { offered = offers_next _ c.send.new.world _ _ _ c.in_ok-send.field-0 (Ok c.in_ok-send-2.field-0) c.in_ok-send.ensures.sent c.in_ok-send-2.ensures.sent }
