use Rattle.std.proofs.Common.{◌≡◌, ◌+◌, ◌≤◌, ◌++◌, drop, length, map}
use Rattle.sb_world.specs.declared.event.Item.TheVariants.{Ended}
use Rattle.sb_world.proofs.hearing.tell.Given as goal

abbrev pub invariant-loop-end : goal.invariant-loop-end
invariant-loop-end l = record {
  told : l.items.items ++ map Ended (drop l.end-index l.end-items) ≡ l.fn.items.items ++ map Ended l.fn.report;
  room : length l.items.items + length (drop l.end-index l.end-items) ≤ l.items.cap;
}
