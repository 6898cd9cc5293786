use Rattle.std.proofs.Common.{sym, ◌∙◌}
use Rattle.sb_http.proofs.Parting.{stops}
use Rattle.sb_http.proofs.rows_query.RowsQuery.with_query.Goals as goal

pub returns-in-Err : goal.returns-in-Err
returns-in-Err c = λ other.
    sym c.loop-part.invariant ∙ stops c.loop-part.taken c.in-Err.why c.loop-part.rest.now c.in-Some.part.now c.in-Some.others.now c.in-Some.ensures.parts (c.in-Err.ensures other)
