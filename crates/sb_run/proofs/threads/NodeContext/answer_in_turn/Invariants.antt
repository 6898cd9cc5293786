use Rattle.std.specs.Prelude.{◌≡◌, List}
use Rattle.sb_run.specs.declared.arrivals.Work.{Work}
use Rattle.sb_run.specs.OwnPurging.{running_least}
use Rattle.sb_run.specs.Works.{WorksInTurn}
use Rattle.sb_run.proofs.threads.NodeContext.answer_in_turn.Given as goal

-- the beat and the purges are those of the pace, and this was done so far
abbrev pub invariant-loop : goal.invariant-loop
invariant-loop g l =
    (l.turns.beats.beat ≡ l.self.beat) × (l.turns.purges.least ≡ running_least l.self.pace.purge_removals)
    × ((done : List Work) × WorksInTurn g.L.WriteLog.seen g.S.NodeTag.opening g.S.DirectoryTag.settings l.self.beat (running_least l.self.pace.purge_removals) done
    (record { log = l.fn.writes.log; owed = l.fn.writes.owed; seat = l.fn.seat }) (record { log = l.writes.log; owed = l.writes.owed; seat = l.current }))
