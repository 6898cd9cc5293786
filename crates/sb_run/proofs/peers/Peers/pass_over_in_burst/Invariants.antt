use Rattle.std.proofs.Common.{◌≡◌}
use Rattle.sb_run.proofs.peers.Peers.pass_over_in_burst.Given as goal

abbrev pub invariant-loop : goal.invariant-loop
invariant-loop l = (l.self.turn ≡ l.fn.self.turn) × (l.self.all ≡ l.fn.self.all)
