use Rattle.std.proofs.Common.{rules}
use Rattle.std.specs.FinMap.{entries}
use Rattle.sb_directory.proofs.Batches.{gathering-goes_on}
use Rattle.sb_directory.proofs.lacked.lacked_changes.Goals as goal

pub loop-owner-preserved : goal.loop-owner-preserved
loop-owner-preserved c = search (rules, gathering-goes_on c.args.holdings.now (entries c.args.lacking.now) c.loop-owner.batch)
