use Rattle.std.proofs.Common.{inl, sym, ap, ◌∙◌, arith}
use Rattle.sb_types.specs.Records.{Table}
use Rattle.sb_log.proofs.Keeping.{refuses, fails, keeps, survives, settles, now_kept, same_fault}
use Rattle.sb_log.proofs.sql.SqlLogWriteLog.put.Goals as goal

pub returns-in-Err-clause-puts : goal.returns-in-Err-clause-puts
returns-in-Err-clause-puts g c =
    let i = c.self.inside in
    let a = c.accept.ensures in
    rw (← c.self.view_is)
    (refuses g.S.Store g.met.S.Store.settled i.owner i.cluster i.max_version i.is_open c.if-not-self.false i.conn i.table c.self.invariant.0 c.args.key.now c.args.slot.now c.in-Err.fault
    (λ f is. same_fault (sym c.in-Err.is ∙ a.refused f is)) (λ is. c.in-Err.ensures.memory is))

pub returns-in-Err-clause-crash : goal.returns-in-Err-clause-crash
returns-in-Err-clause-crash g c clean up left may =
    let i = c.self.inside in
    rw (← c.self.view_is) (inl (settles g.S.Store g.met.S.Store.settled i.owner i.cluster i.conn i.table i.is_open c.self.invariant.0 clean c.if-not-self.false left may))

pub returns-in-Err-clause-settled : goal.returns-in-Err-clause-settled
returns-in-Err-clause-settled g c =
    let i = c.self.inside in
    settles g.S.Store g.met.S.Store.settled i.owner i.cluster i.conn i.table i.is_open c.self.invariant.0

pub returns-in-Ok-write_entry-clause-puts : goal.returns-in-Ok-write_entry-clause-puts
returns-in-Ok-write_entry-clause-puts g c =
    let i = c.self.inside in
    let a = c.in-Ok.ensures in
    let w = c.write_entry in
    rw (← c.self.view_is)
    (keeps g.S.Store g.met.S.Store.settled i.owner i.cluster i.max_version i.is_open c.if-not-self.false i.conn i.table c.self.invariant.0 c.args.key.now c.args.slot.now w.new.conn w.ensures.clean c.in-Ok.entry
    a.entry a.fits c.new.result c.new.ensures (λ clean ready. (c.in-Ok-write_entry.ensures.commits.changes clean ready).0) (λ clean ready. (c.in-Ok-write_entry.ensures.commits.changes clean ready).1))

pub returns-in-Ok-write_entry-clause-crash : goal.returns-in-Ok-write_entry-clause-crash
returns-in-Ok-write_entry-clause-crash g c clean up =
    let i = c.self.inside in
    let a = c.in-Ok.ensures in
    let w = c.write_entry in
    rw (← c.self.view_is)
    (survives g.S.Store g.met.S.Store.settled i.owner i.cluster i.max_version i.is_open c.if-not-self.false i.conn i.table c.self.invariant.0 c.args.key.now c.args.slot.now w.new.conn w.ensures.clean c.in-Ok.entry
    a.entry a.fits w.ensures.commits.crash clean)

pub returns-in-Ok-write_entry-clause-settled : goal.returns-in-Ok-write_entry-clause-settled
returns-in-Ok-write_entry-clause-settled g c =
    let i = c.self.inside in
    let a = c.in-Ok.ensures in
    let w = c.write_entry in
    settles g.S.Store g.met.S.Store.settled i.owner i.cluster w.new.conn c.accept.new.table i.is_open
    (now_kept g.S.Store g.met.S.Store.settled i.owner i.cluster i.max_version i.is_open c.if-not-self.false i.conn i.table c.self.invariant.0 c.args.key.now c.args.slot.now w.new.conn w.ensures.clean c.in-Ok.entry
    a.entry a.fits c.accept.new.table a.entered (λ clean ready. (c.in-Ok-write_entry.ensures.commits.changes clean ready).0) c.in-Ok-write_entry.ensures.commits.ready (λ clean ready. (c.in-Ok-write_entry.ensures.commits.changes clean ready).1))

pub returns-in-Err-write_entry-clause-puts : goal.returns-in-Err-write_entry-clause-puts
returns-in-Err-write_entry-clause-puts g c =
    let i = c.self.inside in
    let a = c.in-Ok.ensures in
    let w = c.write_entry in
    rw (← c.self.view_is)
    (fails g.S.Store g.met.S.Store.settled i.owner i.cluster i.max_version i.is_open c.if-not-self.false i.conn i.table c.self.invariant.0 c.args.key.now c.args.slot.now w.new.conn w.ensures.clean a.fits)

pub returns-in-Err-write_entry-clause-crash : goal.returns-in-Err-write_entry-clause-crash
returns-in-Err-write_entry-clause-crash g c clean up =
    let i = c.self.inside in
    let a = c.in-Ok.ensures in
    let w = c.write_entry in
    rw (← c.self.view_is)
    (survives g.S.Store g.met.S.Store.settled i.owner i.cluster i.max_version i.is_open c.if-not-self.false i.conn i.table c.self.invariant.0 c.args.key.now c.args.slot.now w.new.conn w.ensures.clean c.in-Ok.entry
    a.entry a.fits w.ensures.commits.crash clean)

pub invariant_of-self-in-Ok-write_entry : goal.invariant_of-self-in-Ok-write_entry
invariant_of-self-in-Ok-write_entry g c =
    let i = c.self.inside in
    let a = c.in-Ok.ensures in
    let w = c.write_entry in (
      now_kept g.S.Store g.met.S.Store.settled i.owner i.cluster i.max_version i.is_open c.if-not-self.false i.conn i.table c.self.invariant.0 c.args.key.now c.args.slot.now w.new.conn w.ensures.clean c.in-Ok.entry
          a.entry a.fits c.accept.new.table a.entered (λ clean ready. (c.in-Ok-write_entry.ensures.commits.changes clean ready).0) c.in-Ok-write_entry.ensures.commits.ready (λ clean ready. (c.in-Ok-write_entry.ensures.commits.changes clean ready).1),
      c.self.invariant.1,
      a.table c.self.invariant.2,
      omega (arith, ap (λ (t : Table). t.held) a.entered, a.version, c.self.invariant.1),
      c.self.invariant.4,
    )
