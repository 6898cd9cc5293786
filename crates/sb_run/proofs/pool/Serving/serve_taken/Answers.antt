use Rattle.sb_run.proofs.Entering.{serves_none, serves_one}
use Rattle.sb_run.proofs.Pooling.{kept_if, kept_later}
use Rattle.sb_run.proofs.pool.Serving.serve_taken.Goals as goal

pub returns-in-Session-clause-kept : goal.returns-in-Session-clause-kept
returns-in-Session-clause-kept g c = kept_if _ _ _ _ (λ shut. shut.0 c.in-Session.number) c.serve_counted.ensures.kept

pub returns-in-Session-clause-entered : goal.returns-in-Session-clause-entered
returns-in-Session-clause-entered g c = serves_one _ _ _ _ _ (rw c.in-Session.is at c.requires.gives) c.serve_counted.ensures.entered

pub returns-in-Question-clause-kept : goal.returns-in-Question-clause-kept
returns-in-Question-clause-kept g c = kept_later _ _ _ c.answer_counted.ensures.later (λ shut. shut.1 (rw c.in-Question.is at c.requires.asks tt))

pub returns-in-Question-clause-entered : goal.returns-in-Question-clause-entered
returns-in-Question-clause-entered g c = serves_none _ _ _ _ c.answer_counted.ensures.entered
