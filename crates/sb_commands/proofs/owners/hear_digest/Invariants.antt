use Rattle.std.proofs.Common.{◌≡◌}
use Rattle.sb_commands.proofs.owners.hear_digest.Given as goal

abbrev pub invariant-loop : goal.invariant-loop
invariant-loop g l = l.connection.last_write ≡ l.fn.connection.last_write
