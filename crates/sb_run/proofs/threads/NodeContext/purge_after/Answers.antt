use Rattle.std.proofs.Common.{refl}
use Rattle.sb_run.proofs.Handing.{known_still}
use Rattle.sb_run.proofs.OwnPurging.{none_asked, purge_asked}
use Rattle.sb_run.proofs.threads.NodeContext.purge_after.Goals as goal

pub returns-then-is_some-clause-purges : goal.returns-then-is_some-clause-purges
returns-then-is_some-clause-purges g c =
    let asked = c.key_count-is_full.new.seat in
    let counted = c.key_count-is_full.ensures in
    none_asked g.L.WriteLog.seen g.S.NodeTag.opening c.args.writes.now.log c.args.writes.now.owed c.args.seat.now c.args.writes.now.log c.args.writes.now.owed asked c.args.turns.now.least
    (known_still c.args.seat.now asked counted.begins counted.seat) refl refl

pub returns-in-Ok-Some-clause-purges : goal.returns-in-Ok-Some-clause-purges
returns-in-Ok-Some-clause-purges g c =
    let counted = c.key_count-is_full.ensures in
    let is = c.purge.ensures in
    purge_asked g.L.WriteLog.seen g.S.NodeTag.opening c.args.writes.now.log c.args.writes.now.owed c.args.seat.now c.purge.new.self.log c.purge.new.self.owed c.purge.new.seat
    c.args.turns.now.least c.is_next.new.self.least c.key_count-is_full.new.seat c.purge.result c.is_next.ensures.least counted.begins counted.seat is.purges is.log is.owed is.refused

pub returns-else-not-is_next-clause-purges : goal.returns-else-not-is_next-clause-purges
returns-else-not-is_next-clause-purges g c =
    let counted = c.key_count-is_full.ensures in
    let is = c.purge.ensures in
    purge_asked g.L.WriteLog.seen g.S.NodeTag.opening c.args.writes.now.log c.args.writes.now.owed c.args.seat.now c.purge.new.self.log c.purge.new.self.owed c.purge.new.seat
    c.args.turns.now.least c.is_next.new.self.least c.key_count-is_full.new.seat c.purge.result c.is_next.ensures.least counted.begins counted.seat is.purges is.log is.owed is.refused

pub returns-else-not-is_next-2-clause-purges : goal.returns-else-not-is_next-2-clause-purges
returns-else-not-is_next-2-clause-purges g c =
    let counted = c.key_count-is_full.ensures in
    let is = c.purge.ensures in
    purge_asked g.L.WriteLog.seen g.S.NodeTag.opening c.args.writes.now.log c.args.writes.now.owed c.args.seat.now c.purge.new.self.log c.purge.new.self.owed c.purge.new.seat
    c.args.turns.now.least c.is_next.new.self.least c.key_count-is_full.new.seat c.purge.result c.is_next.ensures.least counted.begins counted.seat is.purges is.log is.owed is.refused
