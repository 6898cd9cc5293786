use Rattle.std.proofs.Common.{◌≡◌, Ok, refl}
use Rattle.std.proofs.lemmas.Result.{err_from_is_err_and}
use Rattle.sb_types.specs.declared.format.TheConstants.{REASON_ROUNDS_DONE}
use Rattle.sb_session.proofs.Talking.{speaking_bye, speaking_digest, same_reason}
use Rattle.sb_session.proofs.talk.speak.Goals as goal

pub returns-in_err-say-clause-speaks : goal.returns-in_err-say-clause-speaks
returns-in_err-say-clause-speaks g c =
    let p = err_from_is_err_and c.from_residual-in_err-say.result c.from_residual-in_err-say.ensures.1 in
    let one : c.in_ok-new.field-0 ≡ REASON_ROUNDS_DONE = same_reason _ _ (Ok c.in_ok-new.field-0) refl c.in_ok-new.ensures in
    rw (p.1, p.2) (speaking_bye g.H.Handler.step c.args.rounds c.in-Some.rounds c.in_ok-new.field-0 c.args.session.now c.args.handler.now _ _ _ c.in-Some.is c.if-rounds-eq0.true
    one c.in_err-say.ensures.says tt)

pub returns-then-rounds-eq0-clause-speaks : goal.returns-then-rounds-eq0-clause-speaks
returns-then-rounds-eq0-clause-speaks g c =
    let one : c.in_ok-new.field-0 ≡ REASON_ROUNDS_DONE = same_reason _ _ (Ok c.in_ok-new.field-0) refl c.in_ok-new.ensures in
    speaking_bye g.H.Handler.step c.args.rounds c.in-Some.rounds c.in_ok-new.field-0 c.args.session.now c.args.handler.now _ _ _ c.in-Some.is c.if-rounds-eq0.true one
    c.in_ok-say.ensures.says refl

pub returns-in_err-say-2-clause-speaks : goal.returns-in_err-say-2-clause-speaks
returns-in_err-say-2-clause-speaks g c =
    let p = err_from_is_err_and c.from_residual-in_err-say-2.result c.from_residual-in_err-say-2.ensures.1 in
    rw (p.1, p.2) (speaking_digest g.H.Handler.step c.args.rounds c.in-Some.rounds c.in_ok-digest.digest c.args.session.now c.args.handler.now c.ask.new.self c.ask.new.handler _ _
    _
    c.in-Some.is c.if-rounds-eq0.false c.in_ok-digest.ensures.asks c.in_err-say-2.ensures.says tt)

pub returns-clause-speaks : goal.returns-clause-speaks
returns-clause-speaks g c =
    speaking_digest g.H.Handler.step c.args.rounds c.in-Some.rounds c.in_ok-digest.digest c.args.session.now c.args.handler.now c.ask.new.self c.ask.new.handler _ _ _
    c.in-Some.is c.if-rounds-eq0.false c.in_ok-digest.ensures.asks c.in_ok-say-2.ensures.says refl
