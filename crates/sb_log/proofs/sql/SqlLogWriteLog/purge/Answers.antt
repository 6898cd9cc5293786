use Rattle.std.proofs.Common.{◌<◌, ◌≤◌, inl, ap, arith}
use Rattle.sb_types.specs.Records.{Table}
use Rattle.sb_log.proofs.Contents.{raised_content}
use Rattle.sb_log.proofs.Floors.{holds_too_high, holds_as_high, still_holds, sql_fails, sql_raises, holds_raised, kept_raised, survives_raise}
use Rattle.sb_log.proofs.Keeping.{settles}
use Rattle.sb_log.proofs.sql.SqlLogWriteLog.purge.Goals as goal

pub returns-then-floor-upto-clause-purges : goal.returns-then-floor-upto-clause-purges
returns-then-floor-upto-clause-purges g c =
    let i = c.self.inside in
    let high : i.table.held < c.args.floor = omega (arith, c.upto-upto.ensures.version, c.if-floor-upto.true) in
    rw (← c.self.view_is) (holds_too_high g.S.Store g.met.S.Store.settled i.owner i.cluster i.max_version i.is_open c.if-not-self.false i.conn i.table c.self.invariant.0 c.self.invariant.2 c.args.floor high)

pub returns-then-floor-upto-clause-crash : goal.returns-then-floor-upto-clause-crash
returns-then-floor-upto-clause-crash g c =
    let i = c.self.inside in
    rw (← c.self.view_is) (λ clean _ left may. inl (settles g.S.Store g.met.S.Store.settled i.owner i.cluster i.conn i.table i.is_open c.self.invariant.0 clean c.if-not-self.false left may))

pub returns-then-floor-upto-clause-settled : goal.returns-then-floor-upto-clause-settled
returns-then-floor-upto-clause-settled g c =
    let i = c.self.inside in
    rw (← c.self.view_is) (settles g.S.Store g.met.S.Store.settled i.owner i.cluster i.conn i.table i.is_open c.self.invariant.0)

pub returns-then-floor-present-clause-purges : goal.returns-then-floor-present-clause-purges
returns-then-floor-present-clause-purges g c =
    let i = c.self.inside in
    let low : c.args.floor ≤ i.table.floor = omega (arith, c.floor-present.ensures.floor, c.if-floor-present.true) in
    rw (← c.self.view_is) (holds_as_high g.S.Store g.met.S.Store.settled i.owner i.cluster i.max_version i.is_open c.if-not-self.false i.conn i.table c.self.invariant.0 c.self.invariant.2 c.args.floor low)

pub returns-then-floor-present-clause-crash : goal.returns-then-floor-present-clause-crash
returns-then-floor-present-clause-crash g c =
    let i = c.self.inside in
    rw (← c.self.view_is) (λ clean _ left may. inl (settles g.S.Store g.met.S.Store.settled i.owner i.cluster i.conn i.table i.is_open c.self.invariant.0 clean c.if-not-self.false left may))

pub returns-then-floor-present-clause-settled : goal.returns-then-floor-present-clause-settled
returns-then-floor-present-clause-settled g c =
    let i = c.self.inside in
    rw (← c.self.view_is) (settles g.S.Store g.met.S.Store.settled i.owner i.cluster i.conn i.table i.is_open c.self.invariant.0)

pub returns-then-floor-present-clause-rows : goal.returns-then-floor-present-clause-rows
returns-then-floor-present-clause-rows g c =
    let i = c.self.inside in
    rw (← c.self.view_is) (still_holds g.S.Store g.met.S.Store.settled i.owner i.cluster i.max_version i.is_open c.if-not-self.false i.conn i.table c.self.invariant.0 c.self.invariant.2)

pub invariant_of-self : goal.invariant_of-self
invariant_of-self g c =
    let i = c.self.inside in
    let r = c.raise_floor in
    let fits : c.args.floor ≤ i.table.held = omega (arith, c.upto-upto.ensures.version, c.if-floor-upto.false) in
    let higher : i.table.floor < c.args.floor = omega (arith, c.floor-present.ensures.floor, c.if-floor-present.false) in
    let same = rw c.upto-upto.ensures.version at c.raise.ensures.raised in (
      kept_raised g.S.Store g.met.S.Store.settled i.owner i.cluster i.max_version i.is_open c.if-not-self.false i.conn i.table c.self.invariant.0 c.self.invariant.2 c.args.floor fits higher r.new.conn r.ensures.clean c.raise.new.self same (rw c.upto-upto.ensures.version at c.in-Ok.ensures.content) c.in-Ok.ensures.ready,
      c.self.invariant.1,
      raised_content c.args.floor i.table c.raise.new.self c.self.invariant.2 (omega (arith, higher)) same c.raise.ensures.table,
      omega (arith, ap (λ (t : Table). t.held) same, c.self.invariant.3),
      c.self.invariant.4,
    )

pub returns-in-Ok-clause-purges : goal.returns-in-Ok-clause-purges
returns-in-Ok-clause-purges g c =
    let i = c.self.inside in
    let r = c.raise_floor in
    let fits : c.args.floor ≤ i.table.held = omega (arith, c.upto-upto.ensures.version, c.if-floor-upto.false) in
    let higher : i.table.floor < c.args.floor = omega (arith, c.floor-present.ensures.floor, c.if-floor-present.false) in
    rw (← c.self.view_is) (sql_raises g.S.Store g.met.S.Store.settled i.owner i.cluster i.max_version i.is_open c.if-not-self.false i.conn i.table c.self.invariant.0 c.self.invariant.2 c.args.floor fits higher r.new.conn r.ensures.clean (rw c.upto-upto.ensures.version at c.in-Ok.ensures.content))

pub returns-in-Ok-clause-crash : goal.returns-in-Ok-clause-crash
returns-in-Ok-clause-crash g c clean up =
    let i = c.self.inside in
    let r = c.raise_floor in
    let fits : c.args.floor ≤ i.table.held = omega (arith, c.upto-upto.ensures.version, c.if-floor-upto.false) in
    let higher : i.table.floor < c.args.floor = omega (arith, c.floor-present.ensures.floor, c.if-floor-present.false) in
    rw (← c.self.view_is) (survives_raise g.S.Store g.met.S.Store.settled i.owner i.cluster i.max_version i.is_open c.if-not-self.false i.conn i.table c.self.invariant.0 c.self.invariant.2 c.args.floor fits higher r.new.conn r.ensures.clean (rw c.upto-upto.ensures.version at c.in-Ok.ensures.crash) clean)

pub returns-in-Ok-clause-settled : goal.returns-in-Ok-clause-settled
returns-in-Ok-clause-settled g c =
    let i = c.self.inside in
    let r = c.raise_floor in
    let fits : c.args.floor ≤ i.table.held = omega (arith, c.upto-upto.ensures.version, c.if-floor-upto.false) in
    let higher : i.table.floor < c.args.floor = omega (arith, c.floor-present.ensures.floor, c.if-floor-present.false) in
    let same = rw c.upto-upto.ensures.version at c.raise.ensures.raised in
    settles g.S.Store g.met.S.Store.settled i.owner i.cluster r.new.conn c.raise.new.self i.is_open
    (kept_raised g.S.Store g.met.S.Store.settled i.owner i.cluster i.max_version i.is_open c.if-not-self.false i.conn i.table c.self.invariant.0 c.self.invariant.2 c.args.floor fits higher r.new.conn r.ensures.clean c.raise.new.self same (rw c.upto-upto.ensures.version at c.in-Ok.ensures.content) c.in-Ok.ensures.ready)

pub returns-in-Ok-clause-rows : goal.returns-in-Ok-clause-rows
returns-in-Ok-clause-rows g c =
    let i = c.self.inside in
    let r = c.raise_floor in
    let fits : c.args.floor ≤ i.table.held = omega (arith, c.upto-upto.ensures.version, c.if-floor-upto.false) in
    let higher : i.table.floor < c.args.floor = omega (arith, c.floor-present.ensures.floor, c.if-floor-present.false) in
    holds_raised g.S.Store g.met.S.Store.settled i.owner i.cluster i.max_version i.is_open c.if-not-self.false i.conn i.table c.self.invariant.0 c.self.invariant.2 c.args.floor fits higher r.new.conn r.ensures.clean (rw c.upto-upto.ensures.version at c.in-Ok.ensures.content)

pub returns-in-Err-clause-purges : goal.returns-in-Err-clause-purges
returns-in-Err-clause-purges g c =
    let i = c.self.inside in
    let r = c.raise_floor in
    let fits : c.args.floor ≤ i.table.held = omega (arith, c.upto-upto.ensures.version, c.if-floor-upto.false) in
    let higher : i.table.floor < c.args.floor = omega (arith, c.floor-present.ensures.floor, c.if-floor-present.false) in
    rw (← c.self.view_is) (sql_fails g.S.Store g.met.S.Store.settled i.owner i.cluster i.max_version i.is_open c.if-not-self.false i.conn i.table c.self.invariant.0 c.self.invariant.2 c.args.floor fits higher r.new.conn r.ensures.clean)

pub returns-in-Err-clause-crash : goal.returns-in-Err-clause-crash
returns-in-Err-clause-crash g c clean up =
    let i = c.self.inside in
    let r = c.raise_floor in
    let fits : c.args.floor ≤ i.table.held = omega (arith, c.upto-upto.ensures.version, c.if-floor-upto.false) in
    let higher : i.table.floor < c.args.floor = omega (arith, c.floor-present.ensures.floor, c.if-floor-present.false) in
    rw (← c.self.view_is) (survives_raise g.S.Store g.met.S.Store.settled i.owner i.cluster i.max_version i.is_open c.if-not-self.false i.conn i.table c.self.invariant.0 c.self.invariant.2 c.args.floor fits higher r.new.conn r.ensures.clean (rw c.upto-upto.ensures.version at c.in-Err.ensures.crash) clean)
