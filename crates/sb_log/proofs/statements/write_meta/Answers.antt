use Rattle.sqlite.specs.Held.{state}
use Rattle.sb_log.proofs.Naming.{name_ready, name_rows, name_meta, names_in}
use Rattle.sb_log.proofs.Writing.{or_commits}
use Rattle.sb_log.proofs.statements.write_meta.Goals as goal

pub returns-in-Ok-clause-commits : goal.returns-in-Ok-clause-commits
returns-in-Ok-clause-commits g c =
    let old = state g.S.Store c.args.conn.now in
    let new = state g.S.Store c.execute.new.self in
    record {
      ready = λ clean ready. name_ready c.args.owner.now c.args.cluster.now old new c.in-Ok.field-0 ready (rw (c.bytes.ensures.text, c.bytes-2.ensures.text) at (c.in-Ok.ensures.runs clean));
      changes = λ clean ready. (
        name_rows c.args.owner.now c.args.cluster.now old new c.in-Ok.field-0 ready (rw (c.bytes.ensures.text, c.bytes-2.ensures.text) at (c.in-Ok.ensures.runs clean)),
        name_meta c.args.owner.now c.args.cluster.now old new c.in-Ok.field-0 ready (rw (c.bytes.ensures.text, c.bytes-2.ensures.text) at (c.in-Ok.ensures.runs clean)),
      );
      crash = λ clean ready db left.
          or_commits (λ commits. let did = names_in c.args.owner.now c.args.cluster.now old ready db commits in (did.0, (did.1, did.2))) (rw (c.bytes.ensures.text, c.bytes-2.ensures.text) at (c.in-Ok.ensures.survives.crash clean db left));
    }

pub returns-in-Err-clause-commits : goal.returns-in-Err-clause-commits
returns-in-Err-clause-commits g c =
    let old = state g.S.Store c.args.conn.now in
    record {
      ready = λ _ _. tt;
      changes = λ _ _. tt;
      crash = λ clean ready db left.
          or_commits (λ commits. let did = names_in c.args.owner.now c.args.cluster.now old ready db commits in (did.0, (did.1, did.2))) (rw (c.bytes.ensures.text, c.bytes-2.ensures.text) at (c.in-Err.ensures.survives.crash clean db left));
    }
