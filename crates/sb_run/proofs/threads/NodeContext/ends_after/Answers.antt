use Rattle.sb_directory.specs.Handling.{still-same}
use Rattle.sb_run.proofs.OwnPurging.{none_asked, purge_between}
use Rattle.sb_run.proofs.threads.NodeContext.ends_after.Goals as goal

pub returns-then-ends_with_log-clause-purges : goal.returns-then-ends_with_log-clause-purges
returns-then-ends_with_log-clause-purges g c =
    let told = c.ends_with_log.new.writes in
    let same = c.ends_with_log.ensures.same in
    none_asked g.L.WriteLog.seen g.S.NodeTag.opening c.args.writes.now.log c.args.writes.now.owed c.args.seat.now told.log told.owed c.args.seat.now c.args.turns.now.least
    (still-same c.args.seat.now) same.0 same.1

pub returns-clause-purges : goal.returns-clause-purges
returns-clause-purges g c =
    let first = c.ends_with_log.ensures.same in
    let last = c.ends_with_log-2.ensures.same in
    purge_between g.L.WriteLog.seen g.S.NodeTag.opening c.args.turns.now.least c.args.seat.now c.purge_after.new.seat
    c.args.writes.now.log c.ends_with_log.new.writes.log c.purge_after.new.writes.log c.ends_with_log-2.new.writes.log
    c.args.writes.now.owed c.ends_with_log.new.writes.owed c.purge_after.new.writes.owed c.ends_with_log-2.new.writes.owed
    first.0 first.1 last.0 last.1 c.purge_after.ensures.purges
