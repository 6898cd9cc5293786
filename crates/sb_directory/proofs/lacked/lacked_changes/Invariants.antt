use Rattle.std.specs.FinMap.{entries}
use Rattle.sb_directory.proofs.Batches.{IsGathering}
use Rattle.sb_directory.proofs.lacked.lacked_changes.Given as goal

abbrev pub invariant-loop-owner : goal.invariant-loop-owner
invariant-loop-owner l = IsGathering l.holdings (entries l.lacking) l.batch l.owner-iterator
