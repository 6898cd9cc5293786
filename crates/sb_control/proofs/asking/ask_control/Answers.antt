use Rattle.std.proofs.Common.{Err, ap, inr}
use Rattle.std.proofs.lemmas.Result.{err_from_is_err_and}
use Rattle.sb_control.proofs.Receiving.{asks_cut, asks_answered}
use Rattle.sb_control.proofs.asking.ask_control.Goals as goal

pub returns-in_err-start-clause-asks : goal.returns-in_err-start-clause-asks
returns-in_err-start-clause-asks g c =
    let p = err_from_is_err_and c.from_residual.result c.from_residual.ensures.1 in
    let e = c.in_err-start.ensures in
    rw (p.1, p.2) (inr (inr (e.0, ap Err e.1, e.2)))

pub returns-in_err-send-clause-asks : goal.returns-in_err-send-clause-asks
returns-in_err-send-clause-asks g c =
    let p = err_from_is_err_and c.from_residual-in_err-send.result c.from_residual-in_err-send.ensures.1 in
    rw (p.1, p.2) (asks_cut c.args.connection.now c.start.new.self c.send.new.self c.args.request.now _ c.in_ok-start.ensures.1 c.in_err-send.ensures.sends
    c.in_err-send.ensures.kept)

pub returns-clause-asks : goal.returns-clause-asks
returns-clause-asks g c =
    asks_answered c.args.connection.now c.start.new.self c.send.new.self c.receive_one.new.connection c.args.request.now c.receive_one.result c.in_ok-start.ensures.1
    c.in_ok-send.ensures.sends c.in_ok-send.ensures.kept c.receive_one.ensures.kept c.receive_one.ensures.receives

pub returns-clause-failed : goal.returns-clause-failed
returns-clause-failed g c = c.receive_one.ensures.unwritten c.receive_one.new.connection.last_write
