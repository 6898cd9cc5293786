use Rattle.std.proofs.Common.{◌≡◌, drop}
use Rattle.sb_directory.specs.Risen.{with_risen}
use Rattle.sb_directory.proofs.risen.add_risen.Given as goal

abbrev pub invariant-loop-pair : goal.invariant-loop-pair
invariant-loop-pair l = with_risen l.news l.holdings (drop l.pair-index l.versions) ≡ with_risen l.initial.news l.holdings l.versions
