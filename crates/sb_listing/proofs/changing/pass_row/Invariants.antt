use Rattle.std.proofs.Common.{◌≡◌, List, ◌++◌, length, map}
use Rattle.sb_codec.specs.Records.{Row}
use Rattle.sb_listing.specs.Changes.{RowChange, changes_past_row}
use Rattle.sb_listing.specs.Printed.{change_of}
use Rattle.sb_listing.proofs.changing.pass_row.Given as goal

abbrev pub invariant-loop-one : goal.invariant-loop-one
invariant-loop-one l = (next : List Row → List RowChange) → map change_of l.found.items ++ changes_past_row l.row next l.rest ≡ map change_of l.fn.found.items ++ changes_past_row l.row next l.fn.earlier

abbrev pub decreases-loop-one : goal.decreases-loop-one
decreases-loop-one l = length l.rest
