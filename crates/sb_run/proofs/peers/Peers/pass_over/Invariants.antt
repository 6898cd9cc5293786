use Rattle.std.proofs.Common.{◌≡◌}
use Rattle.std.specs.Prelude.{vec_len}
use Rattle.sb_run.proofs.peers.Peers.pass_over.Given as goal

abbrev pub invariant-loop : goal.invariant-loop
invariant-loop l = (l.self.burst_turn ≡ l.fn.self.burst_turn) × (vec_len l.self.all ≡ vec_len l.fn.self.all)
