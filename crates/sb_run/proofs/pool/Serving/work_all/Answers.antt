use Rattle.std.proofs.Common.{rules}
use Rattle.sb_run.proofs.Entering.{serves_at}
use Rattle.sb_run.proofs.Pooling.{from_first, kept_at}
use Rattle.sb_run.proofs.pool.Serving.work_all.Goals as goal

pub returns-clause-kept : goal.returns-clause-kept
returns-clause-kept g c = record {
  as_many = search rules;
  each = λ index seat within. let at = (c.for_each_mut.ensures index seat within).1 in kept_at _ _ _ _ _ at.argument_is at.left at.call.0;
}

pub returns-clause-entered : goal.returns-clause-entered
returns-clause-entered g c = λ index seat within. let at = (c.for_each_mut.ensures index seat within).1 in serves_at _ _ _ _ _ _ at.argument_is at.left at.call.1.0

pub returns-clause-over : goal.returns-clause-over
returns-clause-over g c = λ some. from_first c.args.seats.now (λ index seat within. (c.for_each_mut.ensures index seat within).1.call.1.1) some
