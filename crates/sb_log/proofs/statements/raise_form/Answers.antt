use Rattle.sqlite.specs.Held.{state}
use Rattle.sb_log.proofs.Raising.{raise_ready, raise_rows, raise_meta, raises_in}
use Rattle.sb_log.proofs.Writing.{or_commits}
use Rattle.sb_log.proofs.statements.raise_form.Goals as goal

pub returns-in-Ok-clause-commits : goal.returns-in-Ok-clause-commits
returns-in-Ok-clause-commits g c form last floor owner cluster named =
    let old = state g.S.Store c.args.conn.now in
    let new = state g.S.Store c.execute.new.self in
    record {
      ready = λ clean ready. raise_ready form last floor owner cluster old ready named new c.in-Ok.field-0 (c.in-Ok.ensures.runs clean);
      changes = λ clean ready. (
        raise_rows form last floor owner cluster old ready named new c.in-Ok.field-0 (c.in-Ok.ensures.runs clean),
        raise_meta form last floor owner cluster old ready named new c.in-Ok.field-0 (c.in-Ok.ensures.runs clean),
      );
      crash = λ clean ready db left. or_commits (λ commits. let did = raises_in form last floor owner cluster old ready named db commits in (did.0, (did.1, did.2))) (c.in-Ok.ensures.survives.crash clean db left);
    }

pub returns-in-Err-clause-commits : goal.returns-in-Err-clause-commits
returns-in-Err-clause-commits g c form last floor owner cluster named =
    let old = state g.S.Store c.args.conn.now in
    record {
      ready = λ _ _. tt;
      changes = λ _ _. tt;
      crash = λ clean ready db left. or_commits (λ commits. let did = raises_in form last floor owner cluster old ready named db commits in (did.0, (did.1, did.2))) (c.in-Err.ensures.survives.crash clean db left);
    }
