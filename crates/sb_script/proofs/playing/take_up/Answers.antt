use Rattle.std.proofs.lemmas.Result.{err_from_is_err_and}
use Rattle.sb_world.specs.declared.event.Event.TheVariants as events
use Rattle.sb_script.specs.Giving.{taking_connection}
use Rattle.sb_script.proofs.Gives.{first_fails, first_sends, lining_fails, lining_goes, last_fails, last_goes}
use Rattle.sb_script.proofs.playing.take_up.Goals as goal

pub returns-in_err-_hello : goal.returns-in_err-_hello
returns-in_err-_hello c =
    let p = err_from_is_err_and c.from_residual.result c.from_residual.ensures.1 in
    record { taken = rw (p.1, p.2) (first_fails c.args.world.now _ (events.Connect c.args.taker taking_connection) _ _ c.in_err-_hello.field-0.0 c.in_err-_hello.ensures.sent) }

pub returns-in_err-line_up : goal.returns-in_err-line_up
returns-in_err-line_up c =
    let p = err_from_is_err_and c.from_residual-in_err-line_up.result c.from_residual-in_err-line_up.ensures.1 in
    record {
      taken = rw (p.1, p.2) (first_sends c.args.world.now c.send.new.world _ (events.Connect c.args.taker taking_connection) _ _ c.in_ok-_hello._hello _
          c.in_ok-_hello.ensures.sent (lining_fails _ _ _ _ _ c.in_err-line_up.field-0.0 c.in_err-line_up.ensures.lined));
    }

pub returns-in_err-line_up-2 : goal.returns-in_err-line_up-2
returns-in_err-line_up-2 c =
    let p = err_from_is_err_and c.from_residual-in_err-line_up-2.result c.from_residual-in_err-line_up-2.ensures.1 in
    record {
      taken = rw (p.1, p.2) (first_sends c.args.world.now c.send.new.world _ (events.Connect c.args.taker taking_connection) _ _ c.in_ok-_hello._hello _
          c.in_ok-_hello.ensures.sent (lining_goes _ c.line_up.new.world _ _ _ _ c.in_ok-line_up.field-0 _ c.in_ok-line_up.ensures.lined
          (last_fails _ _ _ _ c.in_err-line_up-2.field-0.0 c.in_err-line_up-2.ensures.lined)));
    }

pub returns : goal.returns
returns c =
    record {
      taken = first_sends c.args.world.now c.send.new.world _ (events.Connect c.args.taker taking_connection) _ _ c.in_ok-_hello._hello _
          c.in_ok-_hello.ensures.sent (lining_goes _ c.line_up.new.world _ _ _ _ c.in_ok-line_up.field-0 _ c.in_ok-line_up.ensures.lined
          (last_goes _ c.line_up-2.new.world _ _ _ c.in_ok-line_up-2.field-0 _ c.in_ok-line_up-2.ensures.lined c.step.ensures.step));
    }
