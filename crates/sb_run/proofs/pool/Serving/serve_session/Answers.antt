use Rattle.std.proofs.Common.{rules}
use Rattle.sb_run.proofs.Entering.{session_enters, session_answers}
use Rattle.sb_run.proofs.Hellos.{talks_greet}
use Rattle.sb_run.proofs.Pooling.{kept_behind}
use Rattle.sb_run.proofs.pool.Serving.serve_session.Goals as goal

pub returns-clause-kept : goal.returns-clause-kept
returns-clause-kept g c =
    let grown = c.serve-ended.ensures.grows.1 in
    kept_behind g.G.Gate.lets c.args.gate.now c.new-handler.result.inner.gate.now c.args.number c.new-handler.result.inner.session c.args.seat
    c.new-handler.result.inner.inner.inner c.serve-ended.new.handler.inner.inner.inner c.into_seat.result (search rules) (search rules) (search rules) (search rules) grown.2 grown.3

pub returns-clause-entered : goal.returns-clause-entered
returns-clause-entered g c =
    session_enters c.new-handler.result (λ h. h.forgotten.now) (λ f. f.names.items) (λ h. h.inner) (λ h. h.gate.now) (λ h. h.session) (λ h. h.inner)
    (λ h. h.offers.all.items) (λ h. h.inner) g.G.Gate.lets g.G.Gate.turns_away g.S.NodeTag.opening g.S.DirectoryTag.settings _ _ _ _ _ _ c.serve-ended.ensures.talks
    c.args.self.now.forgotten.now.names.items c.args.seat c.into_seat.result (search rules) (search rules) (search rules)

pub returns-clause-greets : goal.returns-clause-greets
returns-clause-greets g c = talks_greet _ _ _ _ _ _ _ _ _ _ c.session_of-session.ensures c.serve-ended.ensures.talks

pub returns-clause-says : goal.returns-clause-says
returns-clause-says g c =
    session_answers c.new-handler.result (λ h. h.forgotten.now) (λ f. f.names.items) (λ h. h.inner) (λ h. h.gate.now) (λ h. h.session) (λ h. h.inner)
    (λ h. h.offers.all.items) (λ h. h.inner) g.G.Gate.lets g.G.Gate.turns_away g.S.NodeTag.opening g.S.DirectoryTag.settings _ _ _ _ _ _ c.serve-ended.ensures.talks c.session_of-session.ensures
    c.into_seat.result (search rules)
