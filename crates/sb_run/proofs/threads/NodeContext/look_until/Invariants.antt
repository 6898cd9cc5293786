use Rattle.sb_directory.specs.Serving.{IsLater}
use Rattle.sb_run.proofs.threads.NodeContext.look_until.Given as goal

abbrev pub invariant-loop : goal.invariant-loop
invariant-loop g l = IsLater l.fn.seat l.current
