use Rattle.std.proofs.Common.{◌≡◌, ap, true, true≢false, sym, ◌∙◌}
use Rattle.sb_log.specs.Cause.{fault_of}
use Rattle.sb_log.proofs.Keeping.{gives, gives_no_memory, gives_nothing, gives_damaged, same_left, settles, still_kept, read_fault}
use Rattle.sb_log.proofs.sql.SqlLogWriteLog.load.Goals as goal

pub returns-in-Ok-clause-loads : goal.returns-in-Ok-clause-loads
returns-in-Ok-clause-loads g c =
    let i = c.self.inside in
    let r = c.read_content in
    rw (← c.self.view_is)
    (gives g.S.Store g.met.S.Store.settled i.owner i.cluster i.max_version i.is_open c.if-not-self.false i.conn i.table c.self.invariant.0 r.new.conn r.ensures.clean c.in-Ok.table c.in-Ok.ensures.table
    (λ clean ready. c.in-Ok.ensures.ready clean ready tt) (rw (c.upto-last.ensures.version, c.floor-floor.ensures.floor) at c.in-Ok.ensures.rows))

pub returns-in-Ok-clause-crash : goal.returns-in-Ok-clause-crash
returns-in-Ok-clause-crash g c clean _ =
    let i = c.self.inside in
    let r = c.read_content in
    rw (← c.self.view_is) (same_left g.S.Store g.met.S.Store.settled i.owner i.cluster i.max_version i.is_open c.if-not-self.false i.conn i.table c.self.invariant.0 r.new.conn r.ensures.clean r.ensures.crash clean)

pub returns-in-Ok-clause-settled : goal.returns-in-Ok-clause-settled
returns-in-Ok-clause-settled g c =
    let i = c.self.inside in
    let r = c.read_content in
    settles g.S.Store g.met.S.Store.settled i.owner i.cluster r.new.conn i.table i.is_open
    (still_kept g.S.Store g.met.S.Store.settled i.owner i.cluster i.max_version i.is_open c.if-not-self.false i.conn i.table c.self.invariant.0 r.new.conn r.ensures.clean (λ clean ready. c.in-Ok.ensures.ready clean ready tt))

pub returns-in-Err-Fault-clause-loads : goal.returns-in-Err-Fault-clause-loads
returns-in-Err-Fault-clause-loads g c =
    let i = c.self.inside in
    let r = c.read_content in
    rw (← c.self.view_is)
    (gives_no_memory g.S.Store g.met.S.Store.settled i.owner i.cluster i.max_version i.is_open c.if-not-self.false i.conn i.table c.self.invariant.0 r.new.conn r.ensures.clean
    (λ clean ready. c.in-Err-Fault.ensures.ready clean ready (read_fault _ _ c.in-Err-Fault.field-0-is c.in-Err-Fault.ensures.fault)))

pub returns-in-Err-Fault-clause-crash : goal.returns-in-Err-Fault-clause-crash
returns-in-Err-Fault-clause-crash g c clean _ =
    let i = c.self.inside in
    let r = c.read_content in
    rw (← c.self.view_is) (same_left g.S.Store g.met.S.Store.settled i.owner i.cluster i.max_version i.is_open c.if-not-self.false i.conn i.table c.self.invariant.0 r.new.conn r.ensures.clean r.ensures.crash clean)

pub returns-in-Err-Fault-clause-settled : goal.returns-in-Err-Fault-clause-settled
returns-in-Err-Fault-clause-settled g c =
    let i = c.self.inside in
    let r = c.read_content in
    settles g.S.Store g.met.S.Store.settled i.owner i.cluster r.new.conn i.table i.is_open
    (still_kept g.S.Store g.met.S.Store.settled i.owner i.cluster i.max_version i.is_open c.if-not-self.false i.conn i.table c.self.invariant.0 r.new.conn r.ensures.clean (λ clean ready. c.in-Err-Fault.ensures.ready clean ready (read_fault _ _ c.in-Err-Fault.field-0-is c.in-Err-Fault.ensures.fault)))

pub returns-in-Err-Store : goal.returns-in-Err-Store
returns-in-Err-Store g c =
    let i = c.self.inside in
    let r = c.read_content in
    let was_open : c.args.self.now.is_open ≡ true = rw (← c.self.view_is) c.if-not-self.false in
    record {
      loads = rw (← c.self.view_is) (gives_nothing g.S.Store g.met.S.Store.settled i.owner i.cluster i.max_version i.is_open c.if-not-self.false i.conn i.table c.self.invariant.0 r.new.conn r.ensures.clean);
      closed = λ shut. absurd (true≢false (sym was_open ∙ shut));
      crash = λ clean _. rw (← c.self.view_is)
          (same_left g.S.Store g.met.S.Store.settled i.owner i.cluster i.max_version i.is_open c.if-not-self.false i.conn i.table c.self.invariant.0 r.new.conn r.ensures.clean r.ensures.crash clean);
      settled = λ clean shut. absurd (true≢false (sym shut));
    }

pub returns-in-Err-Fault-LogDamaged : goal.returns-in-Err-Fault-LogDamaged
returns-in-Err-Fault-LogDamaged g c =
    let i = c.self.inside in
    let r = c.read_content in
    let was_open : c.args.self.now.is_open ≡ true = rw (← c.self.view_is) c.if-not-self.false in
    record {
      loads = rw (← c.self.view_is) (gives_damaged g.S.Store g.met.S.Store.settled i.owner i.cluster i.max_version i.is_open c.if-not-self.false i.conn i.table c.self.invariant.0 r.new.conn r.ensures.clean
          (λ clean ready t are can. (rw (c.upto-last.ensures.version, c.floor-floor.ensures.floor) at c.in-Err-Fault-LogDamaged.ensures.whole) clean ready t are can (ap fault_of c.in-Err-Fault-LogDamaged.field-0-is ∙ c.in-Err-Fault-LogDamaged.field-0-0-is)));
      closed = λ shut. absurd (true≢false (sym was_open ∙ shut));
      crash = λ clean _. rw (← c.self.view_is)
          (same_left g.S.Store g.met.S.Store.settled i.owner i.cluster i.max_version i.is_open c.if-not-self.false i.conn i.table c.self.invariant.0 r.new.conn r.ensures.clean r.ensures.crash clean);
      settled = λ clean shut. absurd (true≢false (sym shut));
    }
