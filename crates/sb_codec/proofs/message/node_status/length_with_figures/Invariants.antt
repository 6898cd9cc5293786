use Rattle.std.proofs.Common.{◌≡◌, ◌≤◌, ◌+◌, true, take}
use Rattle.std.specs.List.{list_all}
use Rattle.sb_types.specs.declared.limits.TheConstants.{PAYLOAD_MOST}
use Rattle.sb_codec.specs.Lengths.{figures_length}
use Rattle.sb_codec.specs.Limits.{is_figure}
use Rattle.sb_codec.proofs.message.node_status.length_with_figures.Given as goal

abbrev pub invariant-loop-figure : goal.invariant-loop-figure
invariant-loop-figure l =
    (l.length ≡ l.head + figures_length (take l.figure-index l.figures)) × (l.length ≤ PAYLOAD_MOST)
    × (list_all is_figure (take l.figure-index l.figures) ≡ true)
