use Rattle.std.proofs.Common.{ℕ, ◌≤◌, List, length}
use Rattle.sb_run.specs.Deliveries.{ExpectInTurn}
use Rattle.sb_run.proofs.schedule.Schedule.begin_burst.Given as goal

abbrev pub invariant-loop : goal.invariant-loop
invariant-loop l =
    (dialed : List ℕ) × (length dialed ≤ l.counter) × ExpectInTurn dialed l.fn.self.deliveries.all.items l.self.deliveries.all.items
