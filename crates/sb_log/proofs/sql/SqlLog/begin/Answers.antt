use Rattle.std.proofs.Common.{◌≡◌, ◌<◌, ◌≤◌, inl, ap, arith, ◌∙◌}
use Rattle.sb_types.specs.declared.limits.TheConstants.{VERSION_MOST}
use Rattle.sb_types.specs.Records.{Table}
use Rattle.sb_log.specs.Puts.{nothing_up_to}
use Rattle.sb_log.proofs.Beginning.{nothing_content, raised_nothing, sql_out_of_turn, sql_fails_to_begin, sql_begins, kept_behind, survives_begin}
use Rattle.sb_log.proofs.Keeping.{settles}
use Rattle.sb_log.proofs.sql.SqlLog.begin.Goals as goal

pub returns-then-after-eq0-clause-crash : goal.returns-then-after-eq0-clause-crash
returns-then-after-eq0-clause-crash g c =
    let i = c.self.inside in
    rw (← c.self.view_is) (λ clean _ left may. inl (settles g.S.Store g.met.S.Store.settled i.owner i.cluster i.conn i.table i.is_open c.self.invariant.0 clean c.if-not-self.false left may))

pub returns-then-after-eq0-clause-settled : goal.returns-then-after-eq0-clause-settled
returns-then-after-eq0-clause-settled g c =
    let i = c.self.inside in
    rw (← c.self.view_is) (settles g.S.Store g.met.S.Store.settled i.owner i.cluster i.conn i.table i.is_open c.self.invariant.0)

pub returns-then-upto-gt0-clause-begins : goal.returns-then-upto-gt0-clause-begins
returns-then-upto-gt0-clause-begins g c =
    let i = c.self.inside in
    let some : 0 < i.table.held = omega (arith, c.upto-upto.ensures.version, c.if-upto-gt0.true) in
    rw (← c.self.view_is, c.upto-upto.ensures.version) (sql_out_of_turn g.S.Store g.met.S.Store.settled i.owner i.cluster i.max_version i.is_open c.if-not-self.false i.conn i.table c.self.invariant.0 c.self.invariant.2 c.args.after (omega (arith, c.if-after-eq0.false)) (omega (arith, c.if-after-gt-VERSION_MOST.false)) some)

pub returns-then-upto-gt0-clause-crash : goal.returns-then-upto-gt0-clause-crash
returns-then-upto-gt0-clause-crash g c =
    let i = c.self.inside in
    rw (← c.self.view_is) (λ clean _ left may. inl (settles g.S.Store g.met.S.Store.settled i.owner i.cluster i.conn i.table i.is_open c.self.invariant.0 clean c.if-not-self.false left may))

pub returns-then-upto-gt0-clause-settled : goal.returns-then-upto-gt0-clause-settled
returns-then-upto-gt0-clause-settled g c =
    let i = c.self.inside in
    rw (← c.self.view_is) (settles g.S.Store g.met.S.Store.settled i.owner i.cluster i.conn i.table i.is_open c.self.invariant.0)

pub invariant_of-self : goal.invariant_of-self
invariant_of-self g c =
    let i = c.self.inside in
    let r = c.begin_after in
    let low : 1 ≤ c.args.after = omega (arith, c.if-after-eq0.false) in
    let high : c.args.after ≤ VERSION_MOST = omega (arith, c.if-after-gt-VERSION_MOST.false) in
    let none : i.table.held ≡ 0 = omega (arith, c.upto-upto.ensures.version, c.if-upto-gt0.false) in
    let same : c.raise.new.self ≡ nothing_up_to c.args.after = c.raise.ensures.raised ∙ raised_nothing c.args.after i.table c.self.invariant.2 none in (
      kept_behind g.S.Store g.met.S.Store.settled i.owner i.cluster i.max_version i.is_open c.if-not-self.false i.conn i.table c.self.invariant.0 c.self.invariant.2 c.args.after low high none r.new.conn r.ensures.clean c.raise.new.self same (λ clean ready owner cluster holds. (c.in-Ok.ensures.commits owner cluster holds).changes clean ready) (λ clean ready owner cluster holds. (c.in-Ok.ensures.commits owner cluster holds).ready clean ready),
      c.self.invariant.1,
      rw same (nothing_content c.args.after),
      omega (arith, ap (λ (t : Table). t.held) same, high),
      c.self.invariant.4,
    )

pub returns-in-Ok-clause-begins : goal.returns-in-Ok-clause-begins
returns-in-Ok-clause-begins g c =
    let i = c.self.inside in
    let r = c.begin_after in
    let low : 1 ≤ c.args.after = omega (arith, c.if-after-eq0.false) in
    let high : c.args.after ≤ VERSION_MOST = omega (arith, c.if-after-gt-VERSION_MOST.false) in
    let none : i.table.held ≡ 0 = omega (arith, c.upto-upto.ensures.version, c.if-upto-gt0.false) in
    rw (← c.self.view_is) (sql_begins g.S.Store g.met.S.Store.settled i.owner i.cluster i.max_version i.is_open c.if-not-self.false i.conn i.table c.self.invariant.0 c.self.invariant.2 c.args.after low high none r.new.conn r.ensures.clean (λ clean ready owner cluster holds. (c.in-Ok.ensures.commits owner cluster holds).changes clean ready))

pub returns-in-Ok-clause-crash : goal.returns-in-Ok-clause-crash
returns-in-Ok-clause-crash g c clean up =
    let i = c.self.inside in
    let r = c.begin_after in
    let low : 1 ≤ c.args.after = omega (arith, c.if-after-eq0.false) in
    let high : c.args.after ≤ VERSION_MOST = omega (arith, c.if-after-gt-VERSION_MOST.false) in
    let none : i.table.held ≡ 0 = omega (arith, c.upto-upto.ensures.version, c.if-upto-gt0.false) in
    rw (← c.self.view_is) (survives_begin g.S.Store g.met.S.Store.settled i.owner i.cluster i.max_version i.is_open c.if-not-self.false i.conn i.table c.self.invariant.0 c.self.invariant.2 c.args.after low high none r.new.conn r.ensures.clean (λ clean ready owner cluster holds. (c.in-Ok.ensures.commits owner cluster holds).crash clean ready) clean)

pub returns-in-Ok-clause-settled : goal.returns-in-Ok-clause-settled
returns-in-Ok-clause-settled g c =
    let i = c.self.inside in
    let r = c.begin_after in
    let low : 1 ≤ c.args.after = omega (arith, c.if-after-eq0.false) in
    let high : c.args.after ≤ VERSION_MOST = omega (arith, c.if-after-gt-VERSION_MOST.false) in
    let none : i.table.held ≡ 0 = omega (arith, c.upto-upto.ensures.version, c.if-upto-gt0.false) in
    let same : c.raise.new.self ≡ nothing_up_to c.args.after = c.raise.ensures.raised ∙ raised_nothing c.args.after i.table c.self.invariant.2 none in
    settles g.S.Store g.met.S.Store.settled i.owner i.cluster r.new.conn c.raise.new.self i.is_open
    (kept_behind g.S.Store g.met.S.Store.settled i.owner i.cluster i.max_version i.is_open c.if-not-self.false i.conn i.table c.self.invariant.0 c.self.invariant.2 c.args.after low high none r.new.conn r.ensures.clean c.raise.new.self same (λ clean ready owner cluster holds. (c.in-Ok.ensures.commits owner cluster holds).changes clean ready) (λ clean ready owner cluster holds. (c.in-Ok.ensures.commits owner cluster holds).ready clean ready))

pub returns-in-Err-clause-begins : goal.returns-in-Err-clause-begins
returns-in-Err-clause-begins g c =
    let i = c.self.inside in
    let r = c.begin_after in
    let low : 1 ≤ c.args.after = omega (arith, c.if-after-eq0.false) in
    let high : c.args.after ≤ VERSION_MOST = omega (arith, c.if-after-gt-VERSION_MOST.false) in
    let none : i.table.held ≡ 0 = omega (arith, c.upto-upto.ensures.version, c.if-upto-gt0.false) in
    rw (← c.self.view_is) (sql_fails_to_begin g.S.Store g.met.S.Store.settled i.owner i.cluster i.max_version i.is_open c.if-not-self.false i.conn i.table c.self.invariant.0 c.self.invariant.2 c.args.after low high none r.new.conn r.ensures.clean)

pub returns-in-Err-clause-crash : goal.returns-in-Err-clause-crash
returns-in-Err-clause-crash g c clean up =
    let i = c.self.inside in
    let r = c.begin_after in
    let low : 1 ≤ c.args.after = omega (arith, c.if-after-eq0.false) in
    let high : c.args.after ≤ VERSION_MOST = omega (arith, c.if-after-gt-VERSION_MOST.false) in
    let none : i.table.held ≡ 0 = omega (arith, c.upto-upto.ensures.version, c.if-upto-gt0.false) in
    rw (← c.self.view_is) (survives_begin g.S.Store g.met.S.Store.settled i.owner i.cluster i.max_version i.is_open c.if-not-self.false i.conn i.table c.self.invariant.0 c.self.invariant.2 c.args.after low high none r.new.conn r.ensures.clean (λ clean ready owner cluster holds. (c.in-Err.ensures.commits owner cluster holds).crash clean ready) clean)
