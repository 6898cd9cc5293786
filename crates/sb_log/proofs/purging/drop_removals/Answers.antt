use Rattle.sqlite.specs.Held.{state}
use Rattle.sb_log.proofs.Dropping.{drop_ready, drop_rows, drop_spares, drops_in}
use Rattle.sb_log.proofs.Writing.{or_commits}
use Rattle.sb_log.proofs.purging.drop_removals.Goals as goal

pub returns-in-Ok-clause-commits : goal.returns-in-Ok-clause-commits
returns-in-Ok-clause-commits g c =
    let old = state g.S.Store c.args.conn.now in
    let new = state g.S.Store c.execute.new.self in
    record {
      ready = λ clean ready. drop_ready c.args.floor old ready new c.in-Ok.field-0 (rw c.one_number.ensures at (c.in-Ok.ensures.runs clean));
      changes = λ clean ready. (
        drop_rows c.args.floor old ready new c.in-Ok.field-0 (rw c.one_number.ensures at (c.in-Ok.ensures.runs clean)),
        drop_spares c.args.floor old ready new c.in-Ok.field-0 (rw c.one_number.ensures at (c.in-Ok.ensures.runs clean)),
      );
      crash = λ clean ready db left.
          or_commits (λ commits. let did = drops_in c.args.floor old ready db (rw c.one_number.ensures at commits) in (did.0, (did.1, did.2))) (c.in-Ok.ensures.survives.crash clean db left);
    }

pub returns-in-Err-clause-commits : goal.returns-in-Err-clause-commits
returns-in-Err-clause-commits g c =
    let old = state g.S.Store c.args.conn.now in
    record {
      ready = λ _ _. tt;
      changes = λ _ _. tt;
      crash = λ clean ready db left.
          or_commits (λ commits. let did = drops_in c.args.floor old ready db (rw c.one_number.ensures at commits) in (did.0, (did.1, did.2))) (c.in-Err.ensures.survives.crash clean db left);
    }
