use Rattle.std.proofs.Common.{◌<◌, rules, arith}
use Rattle.sb_codec.specs.Lengths.{row_length}
use Rattle.sb_views.specs.LiveRows.{row_lent}
use Rattle.sb_query.proofs.Fronts.{gathering-begins, gathering-more, gathering-cut, gathering-some, gathering-whole, whole-some, room-short}
use Rattle.sb_query.proofs.answering.gather.Goals as goal

pub loop-row-init : goal.loop-row-init
loop-row-init c = gathering-begins c.args.budget c.args.asked _ _ _ (search rules) (omega arith) (search rules)

pub returns-in_default-clause-front : goal.returns-in_default-clause-front
returns-in_default-clause-front c =
    let short : c.loop-row.room < row_length c.in_ok-copy.copy = room-short c.checked_sub.result c.encoded_length.result c.loop-row.room _ c.checked_sub.ensures c.in_default.not-Some c.encoded_length.ensures.length in
    gathering-cut c.args.budget c.args.asked c.loop-row.rows.items c.loop-row.room c.loop-row.row-iterator c.loop-row.invariant
    (row_lent c.in-Some.row) c.next.new.self c.in-Some.ensures.steps c.in_ok-copy.copy c.in_ok-copy.ensures.told short

pub returns-in_default-clause-some : goal.returns-in_default-clause-some
returns-in_default-clause-some c = λ some.
    let short : c.loop-row.room < row_length c.in_ok-copy.copy = room-short c.checked_sub.result c.encoded_length.result c.loop-row.room _ c.checked_sub.ensures c.in_default.not-Some c.encoded_length.ensures.length in
    gathering-some c.args.budget c.args.asked c.loop-row.rows.items c.loop-row.room c.loop-row.row-iterator c.loop-row.invariant
    (row_lent c.in-Some.row) c.next.new.self c.in-Some.ensures.steps c.in_ok-copy.copy c.in_ok-copy.ensures.told c.requires.least (omega (arith, c.encoded_length.ensures.most, c.encoded_length.ensures.length)) short

pub returns-in_default-clause-each : goal.returns-in_default-clause-each
returns-in_default-clause-each c = c.loop-row.invariant.each

pub loop-row-preserved : goal.loop-row-preserved
loop-row-preserved c =
    gathering-more c.args.budget c.args.asked c.loop-row.rows.items c.loop-row.room c.loop-row.row-iterator c.loop-row.invariant
    (row_lent c.in-Some.row) c.next.new.self c.in-Some.ensures.steps c.in_ok-copy.copy c.in_ok-copy.ensures.told _ c.in-Some-checked_sub.left
    (search rules) (omega (arith, c.in-Some-checked_sub.ensures.0, c.in-Some-checked_sub.ensures.1, c.encoded_length.ensures.length)) c.encoded_length.ensures.row

pub returns-clause-front : goal.returns-clause-front
returns-clause-front c = gathering-whole c.args.budget c.args.asked c.loop-row.rows.items c.loop-row.room c.loop-row.row-iterator c.loop-row.invariant c.in-None.ensures.steps.0

pub returns-clause-some : goal.returns-clause-some
returns-clause-some c = whole-some c.args.budget c.args.asked c.loop-row.rows.items c.loop-row.room c.loop-row.row-iterator c.loop-row.invariant c.in-None.ensures.steps.0

pub returns-clause-each : goal.returns-clause-each
returns-clause-each c = c.loop-row.invariant.each
