use Rattle.std.proofs.Common.{◌≡◌, List, ◌++◌, length}
use Rattle.sb_codec.specs.Records.{Row}
use Rattle.sb_commands.specs.Keeping.{rows_past_row}
use Rattle.sb_commands.proofs.keeping.keep_to.Given as goal

abbrev pub invariant-loop-one : goal.invariant-loop-one
invariant-loop-one l = (next : List Row → List Row) → l.kept.items ++ rows_past_row l.reaches l.row next l.rest ≡ l.fn.kept.items ++ rows_past_row l.reaches l.row next l.fn.held

abbrev pub decreases-loop-one : goal.decreases-loop-one
decreases-loop-one l = length l.rest
