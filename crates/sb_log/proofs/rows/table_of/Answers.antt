use Rattle.std.proofs.Common.{rules, sym, subst}
use Rattle.sqlite_value.specs.Order.{Row}
use Rattle.sb_log.proofs.Whole.{IsNext, next_of_rows, next_fits, cells_found}
use Rattle.sb_log.proofs.rows.table_of.Goals as goal

pub returns-in_err-add-in-Some-clause-whole : goal.returns-in_err-add-in-Some-clause-whole
returns-in_err-add-in-Some-clause-whole c t plain kept is numbered once =
    let front = c.loop-row.table.entries in
    let next = subst (λ (row : Row). IsNext row front t.entries) (sym c.row-item.is) (next_of_rows c.args.rows.now c.loop-row.row-index c.row-item.result front t.entries (search rules) c.loop-row.invariant.1 is kept numbered) in
    let some = c.in-Some.is in
    let cells = cells_found c.in_ok-entry.field-0 c.in-Some.entry c.row-item.result c.in_ok-entry.ensures.entry (cc) in
    let fits = next_fits c.loop-row.table t c.row-item.result c.in-Some.entry c.loop-row.invariant.0 plain next cells in
    let none = c.in_err-add-in-Some.ensures.whole fits.0 fits.1 fits.2 in
    search (rules, none)

pub returns-in-None-clause-whole : goal.returns-in-None-clause-whole
returns-in-None-clause-whole c t plain kept is numbered once =
    let front = c.loop-row.table.entries in
    let next = subst (λ (row : Row). IsNext row front t.entries) (sym c.row-item.is) (next_of_rows c.args.rows.now c.loop-row.row-index c.row-item.result front t.entries (search rules) c.loop-row.invariant.1 is kept numbered) in
    let none = c.in-None.is in
    absurd (c.in_ok-entry.ensures.whole next.entry next.kept next.cells_are next.numbered (cc))
