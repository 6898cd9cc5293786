use Rattle.std.proofs.Common.{◌≡◌, ◌≤◌, count_by, take}
use Rattle.sb_run.specs.Deliveries.{takes_slow_room}
use Rattle.sb_run.proofs.schedule.Deliveries.has_room.Given as goal

abbrev pub invariant-loop-delivery : goal.invariant-loop-delivery
invariant-loop-delivery l = (l.slow ≡ count_by takes_slow_room (take l.delivery-index l.self.all.items)) × (l.slow ≤ l.delivery-index)
