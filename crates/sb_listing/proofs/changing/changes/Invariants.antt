use Rattle.std.proofs.Common.{◌≡◌, ◌++◌, map, drop}
use Rattle.sb_listing.specs.Changes.{changes_between}
use Rattle.sb_listing.specs.Printed.{change_of}
use Rattle.sb_listing.proofs.changing.changes.Given as goal

abbrev pub invariant-loop-row : goal.invariant-loop-row
invariant-loop-row l = map change_of l.found.items ++ changes_between l.rest (drop l.row-index l.later) ≡ changes_between l.fn.earlier l.later
