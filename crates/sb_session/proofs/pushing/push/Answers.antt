use Rattle.std.proofs.lemmas.Result.{err_from_is_err_and}
use Rattle.sb_session.proofs.PushEnds.{pushes_cut, pushes_heard}
use Rattle.sb_session.proofs.pushing.push.Goals as goal

pub returns-in_err-say_all-clause-pushes : goal.returns-in_err-say_all-clause-pushes
returns-in_err-say_all-clause-pushes g c =
    let p = err_from_is_err_and c.from_residual-in_err-say_all.result c.from_residual-in_err-say_all.ensures.1 in
    rw (p.1, p.2) (pushes_cut c.args.session c.args.delta c.args.connection.now c.say_all.new.connection _ c.in_ok-start.ensures.0
    (rw c.in_ok-start.ensures.1 at c.in_err-say_all.ensures.kept) (rw c.in_ok-start.ensures.1 at c.in_err-say_all.ensures.says))

pub returns-clause-pushes : goal.returns-clause-pushes
returns-clause-pushes g c =
    pushes_heard c.args.session c.args.delta c.args.connection.now c.await_end.new.connection c.say_all.new.connection c.await_end.result c.in_ok-start.ensures.0
    (rw c.in_ok-start.ensures.1 at c.in_ok-say_all.ensures.kept) (rw c.in_ok-start.ensures.1 at c.in_ok-say_all.ensures.says) c.await_end.ensures.kept c.await_end.ensures.awaits
