use Rattle.std.proofs.Common.{Err, ap, ◌∙◌}
use Rattle.std.proofs.lemmas.Result.{err_from_is_err_and}
use Rattle.sb_session.specs.Pushes.{first_refusal}
use Rattle.sb_session.proofs.Saying.{received_wrote}
use Rattle.sb_session.proofs.PushEnds.{first_refused, first_taken, awaits_none, awaits_fault, awaits_refused, awaits_end, awaits_more, awaits_stop}
use Rattle.sb_session.proofs.pushing.await_end.Goals as goal

pub returns-in_err-first-clause-awaits : goal.returns-in_err-first-clause-awaits
returns-in_err-first-clause-awaits g c =
    let p = err_from_is_err_and c.from_residual.result c.from_residual.ensures.1 in
    rw (p.1, p.2) (awaits_fault c.args.session.now c.args.connection.now c.receive.new.self _ c.in_err-first.ensures.gives)

pub returns-in_err-first-clause-unwritten : goal.returns-in_err-first-clause-unwritten
returns-in_err-first-clause-unwritten g c =
    let p = err_from_is_err_and c.from_residual.result c.from_residual.ensures.1 in
    received_wrote c.from_residual.result c.args.connection.now c.receive.new.self _ c.receive.new.self.last_write (p.1 ∙ ap Err p.2) c.in_err-first.ensures.gives

pub returns-in_err-take_first-clause-awaits : goal.returns-in_err-take_first-clause-awaits
returns-in_err-take_first-clause-awaits g c =
    let s = c.args.session.now in
    let p = err_from_is_err_and c.from_residual-in_err-take_first.result c.from_residual-in_err-take_first.ensures.1 in
    rw (p.1, p.2) (awaits_refused s c.args.connection.now c.receive.new.self c.in-Some.first _
    (first_refused (Unit {0}) (first_refusal s c.in-Some.first) s c.take_first.new.self _ c.in_err-take_first.ensures.takes) (rw c.in-Some.is at c.in_ok-first.ensures.gives))

pub returns-in_err-receive-clause-awaits : goal.returns-in_err-receive-clause-awaits
returns-in_err-receive-clause-awaits g c =
    let s = c.args.session.now in
    let p = err_from_is_err_and c.from_residual-in_err-receive.result c.from_residual-in_err-receive.ensures.1 in
    rw (p.1, p.2) (awaits_stop s c.args.connection.now c.in-Some.first c.receive.new.self c.receive-2.new.self
    (first_taken (Unit {0}) (first_refusal s c.in-Some.first) s c.take_first.new.self _ c.in_ok-take_first.ensures.takes) _ (rw c.in-Some.is at c.in_ok-first.ensures.gives) c.in_err-receive.ensures.gives)

pub returns-in_err-receive-clause-unwritten : goal.returns-in_err-receive-clause-unwritten
returns-in_err-receive-clause-unwritten g c =
    let p = err_from_is_err_and c.from_residual-in_err-receive.result c.from_residual-in_err-receive.ensures.1 in
    received_wrote c.from_residual-in_err-receive.result c.receive.new.self c.receive-2.new.self _ c.receive-2.new.self.last_write (p.1 ∙ ap Err p.2) c.in_err-receive.ensures.gives

pub returns-in-None-clause-awaits : goal.returns-in-None-clause-awaits
returns-in-None-clause-awaits g c =
    let s = c.args.session.now in
    awaits_end s c.args.connection.now c.in-Some.first c.receive.new.self c.receive-2.new.self
    (first_taken (Unit {0}) (first_refusal s c.in-Some.first) s c.take_first.new.self _ c.in_ok-take_first.ensures.takes) (rw c.in-Some.is at c.in_ok-first.ensures.gives)
    (rw c.in-None.is at c.in_ok-receive.ensures.gives)

pub returns-clause-awaits : goal.returns-clause-awaits
returns-clause-awaits g c =
    let s = c.args.session.now in
    awaits_more s c.args.connection.now c.in-Some.first c.receive.new.self c.receive-2.new.self
    (first_taken (Unit {0}) (first_refusal s c.in-Some.first) s c.take_first.new.self _ c.in_ok-take_first.ensures.takes) c.in-Some-2.field-0 (rw c.in-Some.is at c.in_ok-first.ensures.gives)
    (rw c.in-Some-2.is at c.in_ok-receive.ensures.gives)
