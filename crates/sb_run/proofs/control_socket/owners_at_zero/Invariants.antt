use Rattle.sb_directory.specs.Serving.{IsStill}
use Rattle.sb_run.proofs.control_socket.owners_at_zero.Given as goal

abbrev pub invariant-loop : goal.invariant-loop
invariant-loop g l = IsStill l.initial.seat l.seat
