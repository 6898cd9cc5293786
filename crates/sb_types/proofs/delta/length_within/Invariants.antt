use Rattle.std.proofs.Common.{◌≡◌, ◌≤◌, true, take}
use Rattle.std.specs.List.{list_all}
use Rattle.sb_types.specs.declared.limits.TheConstants.{PAYLOAD_MOST}
use Rattle.sb_types.specs.Lengths.{delta_length}
use Rattle.sb_types.specs.Limits.{is_delta_block}
use Rattle.sb_types.proofs.delta.length_within.Given as goal

abbrev pub invariant-loop-block : goal.invariant-loop-block
invariant-loop-block l =
    (l.length ≡ delta_length (take l.block-index l.blocks)) × (l.length ≤ PAYLOAD_MOST)
    × (list_all is_delta_block (take l.block-index l.blocks) ≡ true)
