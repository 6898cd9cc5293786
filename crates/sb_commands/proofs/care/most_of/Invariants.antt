use Rattle.std.proofs.Common.{◌≡◌, max, drop}
use Rattle.sb_commands.specs.Care.{most_of}
use Rattle.sb_commands.proofs.care.most_of.Given as goal

abbrev pub invariant-loop-one : goal.invariant-loop-one
invariant-loop-one l = max l.most (most_of (drop l.one-index l.counts)) ≡ most_of l.counts
