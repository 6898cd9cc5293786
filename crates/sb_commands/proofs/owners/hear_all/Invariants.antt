use Rattle.std.proofs.Common.{◌≡◌, false}
use Rattle.sb_frames.specs.Sending.{has_failed}
use Rattle.sb_commands.proofs.owners.hear_all.Given as goal

abbrev pub invariant-loop : goal.invariant-loop
invariant-loop g l = has_failed l.connection.last_write ≡ false
