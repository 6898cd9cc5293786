use Rattle.std.proofs.Common.{◌≡◌, take}
use Rattle.sb_listing.specs.Json.{json_lines}
use Rattle.sb_listing.proofs.json.lines_of.Given as goal

abbrev pub invariant-loop-row : goal.invariant-loop-row
invariant-loop-row l = l.out.items ≡ json_lines (take l.row-index l.rows)
