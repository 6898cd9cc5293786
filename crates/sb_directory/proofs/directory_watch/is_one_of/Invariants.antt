use Rattle.std.proofs.Common.{drop}
use Rattle.sb_directory.proofs.Watching.{IsLooking}
use Rattle.sb_directory.proofs.directory_watch.is_one_of.Given as goal

abbrev pub invariant-loop-one : goal.invariant-loop-one
invariant-loop-one g l = IsLooking l.watch l.watches (drop l.one-index l.watches)
