use Rattle.std.proofs.Common.{◌≡◌, map, take, drop, ◌++◌}
use Rattle.sb_directory.specs.Watching.{renewed}
use Rattle.sb_directory.proofs.directory_watch.renew.Given as goal

abbrev pub invariant-loop-watch : goal.invariant-loop-watch
invariant-loop-watch g l = l.watches ≡ map (renewed l.id l.history) (take l.watch-index l.initial.watches) ++ drop l.watch-index l.initial.watches
