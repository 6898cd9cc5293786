use Rattle.std.proofs.Common.{rules}
use Rattle.sb_run.proofs.Entering.{session_enters, session_answers}
use Rattle.sb_run.proofs.Exchanges.{talks_exchange}
use Rattle.sb_run.proofs.Hellos.{talks_greet}
use Rattle.sb_run.proofs.threads.NodeContext.talk.Goals as goal

pub returns-clause-entered : goal.returns-clause-entered
returns-clause-entered g c =
    session_enters c.new-handler.result (λ h. h.forgotten.now) (λ f. f.names.items) (λ h. h.inner) (λ h. h.gate.now) (λ h. h.session) (λ h. h.inner)
    (λ h. h.offers.all.items) (λ h. h.inner) (λ gate session point. Unit {0}) (λ gate session point. ⊥) _ _ _ _ _ _ _ _ c.dial-ended.ensures.talks
    c.args.self.now.forgotten.now.names.items c.args.seat c.into_seat.result (search rules) (search rules) (search rules)

pub returns-clause-greets : goal.returns-clause-greets
returns-clause-greets g c = talks_greet _ _ _ _ _ _ _ _ _ _ c.session_of-session.ensures c.dial-ended.ensures.talks

pub returns-clause-rounds : goal.returns-clause-rounds
returns-clause-rounds g c = talks_exchange _ _ _ _ _ _ _ _ c.dial-ended.ensures.talks

pub returns-clause-says : goal.returns-clause-says
returns-clause-says g c =
    session_answers c.new-handler.result (λ h. h.forgotten.now) (λ f. f.names.items) (λ h. h.inner) (λ h. h.gate.now) (λ h. h.session) (λ h. h.inner)
    (λ h. h.offers.all.items) (λ h. h.inner) (λ gate session point. Unit {0}) (λ gate session point. ⊥) _ _ _ _ _ _ _ _ c.dial-ended.ensures.talks c.session_of-session.ensures
    c.into_seat.result (search rules)
