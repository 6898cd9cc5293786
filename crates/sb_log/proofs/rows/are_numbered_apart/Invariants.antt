use Rattle.std.proofs.Common.{take, int_cmp}
use Rattle.std.specs.BTreeSet.{contains}
use Rattle.sb_log.proofs.Numbering.{AreSeen}
use Rattle.sb_log.proofs.rows.are_numbered_apart.Given as goal

abbrev pub invariant-loop-row : goal.invariant-loop-row
invariant-loop-row l = AreSeen (contains int_cmp l.seen) (take l.row-index l.rows)
