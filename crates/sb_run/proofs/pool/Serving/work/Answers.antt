use Rattle.sb_run.proofs.Entering.{looking_same, serves_none, serves_on}
use Rattle.sb_run.proofs.Pooling.{kept_same, kept_on}
use Rattle.sb_run.proofs.pool.Serving.work.Goals as goal

pub loop-init : goal.loop-init
loop-init g c = (kept_same _ c.args.seat, serves_none _ _ c.args.seat c.args.seat (looking_same c.args.seat))

pub loop-preserved : goal.loop-preserved
loop-preserved g c = (
  kept_on _ c.args.seat c.loop.current c.serve_taken-current.result c.loop.invariant.0 c.serve_taken-current.ensures.kept,
  serves_on _ _ c.args.seat c.loop.current c.serve_taken-current.result c.loop.invariant.1 c.serve_taken-current.ensures.entered,
)
