use Rattle.std.proofs.Common.{◌∙◌}
use Rattle.sb_run.proofs.InTurn.{works_on}
use Rattle.sb_run.proofs.threads.NodeContext.answer_in_turn.Goals as goal

pub loop-preserved : goal.loop-preserved
loop-preserved g c =
    let is = c.do_next-seat.ensures in
    let kept = c.loop.invariant in (
      is.same.0 ∙ kept.0,
      is.same.1 ∙ kept.1,
      works_on g.L.WriteLog.seen g.S.NodeTag.opening g.S.DirectoryTag.settings _ _ _ _ _ _ _ _ kept.0 kept.1 kept.2 is.next,
    )

pub returns-then-has_ended-clause-works : goal.returns-then-has_ended-clause-works
returns-then-has_ended-clause-works g c =
    let kept = c.loop.invariant in
    works_on g.L.WriteLog.seen g.S.NodeTag.opening g.S.DirectoryTag.settings _ _ _ _ _ _ _ _ kept.0 kept.1 kept.2 c.do_next-seat.ensures.next
