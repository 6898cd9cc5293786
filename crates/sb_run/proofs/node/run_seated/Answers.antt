use Rattle.std.proofs.Common.{inl}
use Rattle.std.proofs.lemmas.Result.{IfErr-weaker}
use Rattle.sb_run.proofs.node.run_seated.Goals as goal

pub returns-clause-fault : goal.returns-clause-fault
returns-clause-fault g c = IfErr-weaker c.run_bound-ran.result _ _ (λ fault ended. inl ended) c.run_bound-ran.ensures.fault
