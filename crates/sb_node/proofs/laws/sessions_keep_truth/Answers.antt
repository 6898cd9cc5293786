use Rattle.sb_node.proofs.PushTruth.{pushed_true}
use Rattle.sb_node.proofs.Told.{Laws, run_kept}
use Rattle.sb_node.proofs.laws.sessions_keep_truth.Goals as goal

pub returns-clause-holds : goal.returns-clause-holds
returns-clause-holds c = λ writes a moves said b is holds run heard.
    let laws : Laws = record { holds = c.calls_keep_truth.ensures.holds; is = c.calls_keep_truth.ensures.is; honest = c.answers_are_honest.ensures.honest } in
    let kept = run_kept laws writes a moves said b is holds run heard in
    (kept.holds, kept.is)

pub returns-clause-said : goal.returns-clause-said
returns-clause-said c = λ writes a moves said b is holds run heard.
    let laws : Laws = record { holds = c.calls_keep_truth.ensures.holds; is = c.calls_keep_truth.ensures.is; honest = c.answers_are_honest.ensures.honest } in
    (run_kept laws writes a moves said b is holds run heard).each

pub returns-clause-pushed : goal.returns-clause-pushed
returns-clause-pushed c = λ writes s core digest blocks is holds answer.
    pushed_true writes s blocks (λ b stands. c.answers_are_honest.ensures.honest writes core.node core.settings.budget digest blocks b is holds answer stands)
