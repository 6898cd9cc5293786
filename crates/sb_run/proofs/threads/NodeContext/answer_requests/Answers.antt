use Rattle.sb_run.proofs.InTurn.{none_done, works_from}
use Rattle.sb_run.proofs.threads.NodeContext.answer_requests.Goals as goal

pub returns-then-ends_with_log-clause-works : goal.returns-then-ends_with_log-clause-works
returns-then-ends_with_log-clause-works g c =
    none_done g.L.WriteLog.seen g.S.NodeTag.opening g.S.DirectoryTag.settings _ _ _

pub returns-clause-works : goal.returns-clause-works
returns-clause-works g c =
    let same = c.ends_with_log.ensures.same in
    works_from g.L.WriteLog.seen g.S.NodeTag.opening g.S.DirectoryTag.settings _ _ _ _ _ _ _ _ same.0 same.1 c.answer_in_turn.ensures.works
