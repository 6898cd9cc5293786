use Rattle.sb_directory.specs.Serving.{IsStill}
use Rattle.sb_run.proofs.dialing.digests_of_all.Given as goal

abbrev pub invariant-loop-count : goal.invariant-loop-count
invariant-loop-count g l = IsStill l.initial.seat l.seat
