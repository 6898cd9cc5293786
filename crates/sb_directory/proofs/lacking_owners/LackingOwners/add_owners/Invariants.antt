use Rattle.std.proofs.Common.{drop}
use Rattle.sb_directory.proofs.Lacking.{IsAdding}
use Rattle.sb_directory.proofs.lacking_owners.LackingOwners.add_owners.Given as goal

abbrev pub invariant-loop-block : goal.invariant-loop-block
invariant-loop-block l = IsAdding l.holdings l.blocks l.initial.self l.self (drop l.block-index l.blocks)
