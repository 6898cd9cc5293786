use Rattle.std.proofs.Common.{◌≡◌, drop}
use Rattle.sb_codec.specs.Figures.{value_at}
use Rattle.sb_codec.proofs.message.node_status.value_of.Given as goal

abbrev pub invariant-loop-figure : goal.invariant-loop-figure
invariant-loop-figure l = value_at l.number (drop l.figure-index l.figures) ≡ value_at l.number l.figures
