use Rattle.std.proofs.Common.{◌≡◌, ◌≤◌, length, take}
use Rattle.sb_world.specs.Steps.{Passes}
use Rattle.sb_world.proofs.world.World.run_each.Given as goal

abbrev pub invariant-loop-event : goal.invariant-loop-event
invariant-loop-event g l = record {
  passes : Passes l.fn.self (take l.event-index l.events) l.answers.items l.self;
  count : length l.answers.items ≡ l.event-index;
  room : length l.events ≤ l.answers.cap;
}
