use Rattle.std.proofs.Common.{◌≡◌, ◌<◌, List, length, map, Result, subst, sym}
use Rattle.std.specs.Prelude.{IfOk, IfErr}
use Rattle.sb_types.specs.declared.fault.Fault.{Fault}
use Rattle.sb_types.specs.declared.fault.Fault.TheVariants.{NoMemory}
use Rattle.sb_codec.specs.Records.{Rows}
use Rattle.sb_views.specs.LiveRows as live
use Rattle.sb_query.specs.Pages.{message_row, asked_rows, IsLongestPage}
use Rattle.sb_query.proofs.Ordered.{answered, answered-front}
use Rattle.sb_query.proofs.answering.answer.Goals as goal

pub returns-clause-page : goal.returns-clause-page
returns-clause-page c =
    let is = answered c.args.budget c.in_ok-more.more c.in_ok-more.rows.items c.args.ask.now c.args.snapshot.now c.rows_behind-asked.result c.rows_behind-asked.ensures c.in_ok-more.ensures.front
    c.new.result c.requires.most c.in_ok-more.ensures.each c.new.ensures in
    let front = answered-front c.args.budget c.in_ok-more.more c.in_ok-more.rows.items c.args.ask.now c.args.snapshot.now c.rows_behind-asked.result c.rows_behind-asked.ensures c.in_ok-more.ensures.front in
    subst (λ (r : Result Rows Fault). IfOk r (λ page. IsLongestPage c.args.budget (asked_rows c.args.ask.now c.args.snapshot.now) page)) (sym is) front

pub returns-clause-some : goal.returns-clause-some
returns-clause-some c =
    let is = answered c.args.budget c.in_ok-more.more c.in_ok-more.rows.items c.args.ask.now c.args.snapshot.now c.rows_behind-asked.result c.rows_behind-asked.ensures c.in_ok-more.ensures.front
    c.new.result c.requires.most c.in_ok-more.ensures.each c.new.ensures in
    let some : 0 < length (asked_rows c.args.ask.now c.args.snapshot.now) → 0 < length c.in_ok-more.rows.items =
    subst (λ (xs : List live.LiveRow). 0 < length (map message_row xs) → 0 < length c.in_ok-more.rows.items) c.rows_behind-asked.ensures c.in_ok-more.ensures.some in
    subst (λ (r : Result Rows Fault). IfOk r (λ page. 0 < length (asked_rows c.args.ask.now c.args.snapshot.now) → 0 < length page.rows)) (sym is) some

pub returns-clause-memory : goal.returns-clause-memory
returns-clause-memory c =
    let is = answered c.args.budget c.in_ok-more.more c.in_ok-more.rows.items c.args.ask.now c.args.snapshot.now c.rows_behind-asked.result c.rows_behind-asked.ensures c.in_ok-more.ensures.front
    c.new.result c.requires.most c.in_ok-more.ensures.each c.new.ensures in
    subst (λ (r : Result Rows Fault). IfErr r (λ fault. fault ≡ NoMemory)) (sym is) tt
