use Rattle.std.proofs.Common.{drop}
use Rattle.sb_directory.proofs.Noting.{IsListing}
use Rattle.sb_directory.proofs.notes.versions_of.Given as goal

abbrev pub invariant-loop-block : goal.invariant-loop-block
invariant-loop-block l = IsListing l.holdings l.blocks l.versions.items (drop l.block-index l.blocks)
