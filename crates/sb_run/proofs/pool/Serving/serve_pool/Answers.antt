use Rattle.std.proofs.Common.{rules}
use Rattle.sb_run.proofs.Entering.{serves_written}
use Rattle.sb_run.proofs.Pooling.{kept_written}
use Rattle.sb_run.proofs.pool.Serving.serve_pool.Goals as goal

pub returns-clause-kept : goal.returns-clause-kept
returns-clause-kept g c =
    kept_written _ c.args.seats.items c.deref_mut.result.now c.work_all.new.seats _ c.args.seats.len (search rules) (search rules) c.work_all.ensures.kept

pub returns-clause-entered : goal.returns-clause-entered
returns-clause-entered g c =
    serves_written _ _ c.args.seats.items c.deref_mut.result.now c.work_all.new.seats _ c.args.seats.len (search rules) c.work_all.ensures.kept.as_many (search rules)
    c.work_all.ensures.entered
