use Rattle.std.proofs.Common.{ap}
use Rattle.sb_run.specs.declared.beating.BeatTurns.{BeatTurns}
use Rattle.sb_run.proofs.InTurn.{does_next}
use Rattle.sb_run.proofs.threads.NodeContext.do_next.Goals as goal

pub returns-clause-next : goal.returns-clause-next
returns-clause-next g c =
    let closed = c.close_lost_log in
    let done = c.do_work-seat in
    does_next g.L.WriteLog.seen g.S.NodeTag.opening g.S.DirectoryTag.settings _ _ _ _ c.args.work closed.new.writes.log closed.new.writes.owed
    (record { log = c.args.writes.now.log; owed = c.args.writes.now.owed; seat = c.args.seat })
    (record { log = done.new.writes.log; owed = done.new.writes.owed; seat = done.result.0 })
    (record { log = c.ends_after-has_ended.new.writes.log; owed = c.ends_after-has_ended.new.writes.owed; seat = c.ends_after-has_ended.new.seat })
    closed.ensures.log closed.ensures.owed (ap (λ (b : BeatTurns). b.beat) c.note.ensures.beats) c.note.ensures.least done.ensures.does c.ends_after-has_ended.ensures.purges

pub returns-clause-noted : goal.returns-clause-noted
returns-clause-noted g c = rw c.note.ensures.writes at c.ends_after-has_ended.ensures.noted
