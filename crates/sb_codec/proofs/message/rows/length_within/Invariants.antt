use Rattle.std.proofs.Common.{◌≡◌, ◌≤◌, true, take}
use Rattle.std.specs.List.{list_all}
use Rattle.sb_types.specs.declared.limits.TheConstants.{PAYLOAD_MOST}
use Rattle.sb_codec.specs.Lengths.{rows_length}
use Rattle.sb_codec.specs.Limits.{is_row}
use Rattle.sb_codec.proofs.message.rows.length_within.Given as goal

abbrev pub invariant-loop-row : goal.invariant-loop-row
invariant-loop-row l =
    (l.length ≡ rows_length (take l.row-index l.rows)) × (l.length ≤ PAYLOAD_MOST)
    × (list_all is_row (take l.row-index l.rows) ≡ true)
