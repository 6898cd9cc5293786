use Rattle.std.proofs.Common.{rules, refl, true≢false, sym, subst}
use Rattle.sqlite.specs.Held.{state}
use Rattle.sb_types.specs.Records.{Table}
use Rattle.sb_log.specs.Opening.{Opens}
use Rattle.sb_log.specs.Standing.{HoldsContent}
use Rattle.sb_log.proofs.Contents.{holds_is}
use Rattle.sb_log.proofs.Keeping.{settles}
use Rattle.sb_log.proofs.sql.SqlLog.open.Goals as goal

pub returns-clause-found : goal.returns-clause-found
returns-clause-found g c clean =
    let o = c.in-Ok.ensures in
    let t = c.in-Ok.table in
    subst (Opens c.args.owner c.args.cluster (state g.S.Store c.args.conn).now)
    (sym (holds_is c.args.owner c.args.cluster t t.entries (state g.S.Store c.open_tables.new.conn).now.trees (o.holds clean))) (o.opens clean)

pub returns-clause-rows : goal.returns-clause-rows
returns-clause-rows g c clean =
    let o = c.in-Ok.ensures in
    let t = c.in-Ok.table in
    let trees = (state g.S.Store c.open_tables.new.conn).now.trees in
    subst (λ (u : Table). HoldsContent c.args.owner c.args.cluster u u.entries trees) (sym (holds_is c.args.owner c.args.cluster t t.entries trees (o.holds clean))) (o.holds clean)

pub returns-clause-settled : goal.returns-clause-settled
returns-clause-settled g c =
    let o = c.in-Ok.ensures in
    settles g.S.Store g.met.S.Store.settled c.args.owner c.args.cluster c.open_tables.new.conn c.in-Ok.table _ (λ _ clean. (o.ready clean, o.holds clean))

pub returns-in-Err-clause-whole : goal.returns-in-Err-clause-whole
returns-in-Err-clause-whole g c t opens clean = c.in-Err.ensures.whole clean t opens

pub invariant_of-result : goal.invariant_of-result
invariant_of-result g c =
    let o = c.in-Ok.ensures in (λ _ clean. (o.ready clean, o.holds clean), search rules, o.table, o.most, (λ _. refl, λ shut. absurd (true≢false shut)))
