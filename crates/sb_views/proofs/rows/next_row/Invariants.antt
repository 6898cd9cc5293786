use Rattle.std.proofs.Common.{◌≡◌, length}
use Rattle.sb_views.specs.LiveRows.{rows_to_come}
use Rattle.sb_views.proofs.rows.next_row.Given as goal

abbrev pub invariant-loop-current : goal.invariant-loop-current
invariant-loop-current l = rows_to_come l.prefix l.current l.owners ≡ rows_to_come l.prefix l.initial.current l.initial.owners

abbrev pub decreases-loop-current : goal.decreases-loop-current
decreases-loop-current l = length l.owners
