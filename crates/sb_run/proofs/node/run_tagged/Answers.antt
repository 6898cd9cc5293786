use Rattle.std.proofs.Common.{inl, sym, ◌∙◌}
use Rattle.std.proofs.lemmas.Result.{err_from_is_err_and, IfOk-weaker}
use Rattle.sb_run.proofs.node.run_tagged.Goals as goal

pub returns-in_err-dialing-clause-fault : goal.returns-in_err-dialing-clause-fault
returns-in_err-dialing-clause-fault g c =
    let p = err_from_is_err_and c.from_residual-in_err-dialing.result c.from_residual-in_err-dialing.ensures.1 in
    rw (p.1, p.2) (inl (inl c.in_err-dialing.ensures))

pub returns-in_err-hearing-clause-fault : goal.returns-in_err-hearing-clause-fault
returns-in_err-hearing-clause-fault g c =
    let p = err_from_is_err_and c.from_residual.result c.from_residual.ensures.1 in
    rw (p.1, p.2) (inl (inl c.in_err-hearing.ensures.memory))

pub returns-clause-rounds : goal.returns-clause-rounds
returns-clause-rounds g c = IfOk-weaker c.run_seated.result _ _ (λ ran made. made ∙ sym c.requires.rounds) c.run_seated.ensures.rounds
