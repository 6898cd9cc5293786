use Rattle.std.proofs.Common.{Option, Ok, Err, refl, subst}
use Rattle.sb_codec.specs.declared.message.Message.{Message}
use Rattle.sb_frames.specs.Connections.{ReceivesOn}
use Rattle.sb_session.proofs.Saying.{received_wrote}
use Rattle.sb_control.proofs.Receiving.{one_came, none_came, one_stopped}
use Rattle.sb_control.proofs.asking.receive_one.Goals as goal

pub returns-in-Ok-Some-clause-receives : goal.returns-in-Ok-Some-clause-receives
returns-in-Ok-Some-clause-receives g c =
    let came = subst (λ (o : Option Message). ReceivesOn c.args.connection.now c.receive.new.self (Ok o)) c.in-Ok-Some.field-0-is c.in-Ok-Some.ensures.gives in
    one_came c.args.connection.now c.receive.new.self c.in-Ok-Some.message c.args.connection.now.stream came

pub returns-in-Ok-None-clause-receives : goal.returns-in-Ok-None-clause-receives
returns-in-Ok-None-clause-receives g c =
    let came = subst (λ (o : Option Message). ReceivesOn c.args.connection.now c.receive.new.self (Ok o)) c.in-Ok-None.field-0-is c.in-Ok-None.ensures.gives in
    none_came c.args.connection.now c.receive.new.self c.args.connection.now.stream came

pub returns-in-Err-clause-receives : goal.returns-in-Err-clause-receives
returns-in-Err-clause-receives g c = one_stopped c.args.connection.now c.receive.new.self c.in-Err.fault c.args.connection.now.stream c.in-Err.ensures.gives

pub returns-in-Err-clause-unwritten : goal.returns-in-Err-clause-unwritten
returns-in-Err-clause-unwritten g c =
    λ last. received_wrote {X = Message} (Err c.in-Err.fault) c.args.connection.now c.receive.new.self c.in-Err.fault last refl c.in-Err.ensures.gives
