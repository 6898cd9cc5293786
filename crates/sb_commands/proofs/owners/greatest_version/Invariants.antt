use Rattle.std.proofs.Common.{◌≡◌, max, drop}
use Rattle.sb_commands.specs.Owners.{greatest_version}
use Rattle.sb_commands.proofs.owners.greatest_version.Given as goal

abbrev pub invariant-loop-pair : goal.invariant-loop-pair
invariant-loop-pair l = max l.greatest (greatest_version l.owner (drop l.pair-index l.pairs)) ≡ greatest_version l.owner l.pairs
