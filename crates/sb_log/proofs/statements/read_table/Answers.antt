use Rattle.std.proofs.Common.{Ok}
use Rattle.std.proofs.lemmas.Result.{err_from_is_err_and}
use Rattle.sqlite.specs.Held.{state}
use Rattle.sb_log.proofs.Reading.{table_is}
use Rattle.sb_log.proofs.Whole.{numbered_whole, apart_whole}
use Rattle.sb_log.proofs.Contents.{kept_most}
use Rattle.sb_log.proofs.statements.read_table.Goals as goal

pub returns-clause-rows : goal.returns-clause-rows
returns-clause-rows g c clean ready =
    let t = c.in_ok-table_of in
    table_is ((state g.S.Store c.args.conn.now).now.trees 1) c.in_ok-rows.rows.items (Ok t.field-0) (c.in_ok-rows.ensures.rows clean ready.schema) t.ensures.plain t.ensures.kept
    (rw c.deref.ensures.value at t.ensures.numbered) (rw c.deref.ensures.value at t.ensures.apart) (rw c.deref.ensures.value at t.ensures.rows)

pub returns-in_err-table_of-clause-whole : goal.returns-in_err-table_of-clause-whole
returns-in_err-table_of-clause-whole g c clean ready t are =
    let whole = rw c.deref.ensures.value at c.in_err-table_of.ensures.whole in
    let same = c.in_ok-rows.ensures.rows clean ready.schema in
    let numbered = numbered_whole _ c.in_ok-rows.rows.items are.numbered same in
    let once = apart_whole _ c.in_ok-rows.rows.items are.apart same in
    let memory = whole t are.plain are.kept (c.in_ok-rows.ensures.whole clean ready.schema t are) numbered once in
    let p = err_from_is_err_and c.from_residual-in_err-table_of.result c.from_residual-in_err-table_of.ensures.1 in
    rw (p.1, p.2, memory) (λ is. cc)

pub returns-clause-most : goal.returns-clause-most
returns-clause-most g c = kept_most (Ok c.in_ok-table_of.field-0) c.in_ok-table_of.ensures.plain c.in_ok-table_of.ensures.kept
