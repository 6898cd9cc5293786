use Rattle.std.proofs.Common.{◌≡◌, ◌++◌, drop, length}
use Rattle.sb_views.proofs.writer.hand_over.Given as goal

abbrev pub invariant-loop-operation : goal.invariant-loop-operation
invariant-loop-operation g l = record {
  desk : l.writer.desk ≡ l.initial.writer.desk;
  pending : drop l.writer.behind l.writer.log.items ++ l.queue.items ≡ drop l.initial.writer.behind l.initial.writer.log.items ++ l.initial.queue.items;
}

abbrev pub decreases-loop-operation : goal.decreases-loop-operation
decreases-loop-operation g l = length l.queue.items
