use Rattle.std.proofs.Common.{◌≡◌, map, take, drop, ◌++◌}
use Rattle.sb_watch.specs.Watches.{watch_after_note}
use Rattle.sb_watch.proofs.hub.tell_all.Given as goal

abbrev pub invariant-loop-watch : goal.invariant-loop-watch
invariant-loop-watch l = l.watches ≡ map (watch_after_note l.note) (take l.watch-index l.initial.watches) ++ drop l.watch-index l.initial.watches
