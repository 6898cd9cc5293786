use Rattle.std.proofs.Common.{◌≡◌, [], drop}
use Rattle.sb_codec.specs.Limits.{are_rows_above}
use Rattle.sb_codec.proofs.message.rows.are_rows_ascending.Given as goal

abbrev pub invariant-loop-row : goal.invariant-loop-row
invariant-loop-row l = are_rows_above l.last_owner l.last_key (drop l.row-index l.rows) ≡ are_rows_above [] [] l.rows
