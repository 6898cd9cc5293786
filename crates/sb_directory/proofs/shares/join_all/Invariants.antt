use Rattle.std.specs.Prelude.{◌≡◌}
use Rattle.std.specs.Vec.Iter.{into_iter_items}
use Rattle.sb_directory.proofs.Sharing.{IsJoining}
use Rattle.sb_directory.proofs.shares.join_all.Given as goal

abbrev pub invariant-loop-seat : goal.invariant-loop-seat
invariant-loop-seat g l = (l.history ≡ l.initial.history) × IsJoining l.initial.history l.fn.seats.items l.all.parts l.all.amount (into_iter_items l.seat-iterator)
