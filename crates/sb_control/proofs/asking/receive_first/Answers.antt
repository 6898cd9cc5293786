use Rattle.std.proofs.Common.{ap}
use Rattle.std.proofs.lemmas.Result.{err_from_is_err_and}
use Rattle.sb_frames.specs.Connections.{Connection}
use Rattle.sb_control.proofs.Receiving.{received_from, none_starts}
use Rattle.sb_control.proofs.asking.receive_first.Goals as goal

pub returns-in_err-start-clause-receives : goal.returns-in_err-start-clause-receives
returns-in_err-start-clause-receives g c =
    let p = err_from_is_err_and c.from_residual.result c.from_residual.ensures.1 in
    let e = c.in_err-start.ensures in
    rw (p.1, p.2) (none_starts c.args.connection.now c.start.new.self _ e.0 e.1 e.2)

pub returns-clause-receives : goal.returns-clause-receives
returns-clause-receives g c =
    let s = c.in_ok-start.ensures.1 in
    received_from c.args.connection.now c.start.new.self c.receive_one.new.connection c.receive_one.result (ap (λ (x : Connection). x.input) s) (ap (λ (x : Connection). x.stream) s)
    (ap (λ (x : Connection). x.left) s) c.receive_one.ensures.receives
