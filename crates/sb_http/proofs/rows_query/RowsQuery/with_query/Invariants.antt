use Rattle.std.proofs.Common.{◌≡◌, length}
use Rattle.sb_http.specs.Parts.{all_parts}
use Rattle.sb_http.specs.RowsQueries.{with_parts}
use Rattle.sb_http.proofs.rows_query.RowsQuery.with_query.Given as goal

abbrev pub invariant-loop-part : goal.invariant-loop-part
invariant-loop-part l = with_parts l.taken (all_parts 38 l.rest) ≡ with_parts l.fn.self (all_parts 38 l.fn.query)

abbrev pub decreases-loop-part : goal.decreases-loop-part
decreases-loop-part l = length l.rest
