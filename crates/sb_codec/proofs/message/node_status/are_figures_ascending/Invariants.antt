use Rattle.std.proofs.Common.{◌≡◌, drop}
use Rattle.sb_codec.specs.Limits.{are_figures_above}
use Rattle.sb_codec.proofs.message.node_status.are_figures_ascending.Given as goal

abbrev pub invariant-loop-figure : goal.invariant-loop-figure
invariant-loop-figure l = are_figures_above l.last (drop l.figure-index l.figures) ≡ are_figures_above 0 l.figures
