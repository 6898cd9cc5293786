use Rattle.std.proofs.Common.{◌≡◌, ◌++◌, map, take}
use Rattle.sb_listing.specs.Changes.{Gone}
use Rattle.sb_listing.specs.Printed.{change_of}
use Rattle.sb_listing.proofs.changing.add_gone.Given as goal

abbrev pub invariant-loop-row : goal.invariant-loop-row
invariant-loop-row l = map change_of l.found.items ≡ map change_of l.fn.found.items ++ map Gone (take l.row-index l.rows)
