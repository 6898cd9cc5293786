use Rattle.sqlite.specs.Held.{state}
use Rattle.sb_log.proofs.Flooring.{floor_ready, floor_rows, floor_meta, floors_in}
use Rattle.sb_log.proofs.Writing.{or_commits}
use Rattle.sb_log.proofs.purging.write_floor.Goals as goal

pub returns-in-Ok-clause-commits : goal.returns-in-Ok-clause-commits
returns-in-Ok-clause-commits g c form was_last was_floor owner cluster named =
    let old = state g.S.Store c.args.conn.now in
    let new = state g.S.Store c.execute.new.self in
    record {
      ready = λ clean ready. floor_ready c.args.last c.args.floor form was_last was_floor owner cluster old ready named new c.in-Ok.field-0
          (rw c.both_numbers.ensures at (c.in-Ok.ensures.runs clean));
      changes = λ clean ready. (
        floor_rows c.args.last c.args.floor form was_last was_floor owner cluster old ready named new c.in-Ok.field-0
            (rw c.both_numbers.ensures at (c.in-Ok.ensures.runs clean)),
        floor_meta c.args.last c.args.floor form was_last was_floor owner cluster old ready named new c.in-Ok.field-0
            (rw c.both_numbers.ensures at (c.in-Ok.ensures.runs clean)),
      );
      crash = λ clean ready db left.
          or_commits
          (λ commits. let did = floors_in c.args.last c.args.floor form was_last was_floor owner cluster old ready named db (rw c.both_numbers.ensures at commits) in (did.0, (did.1, did.2)))
          (c.in-Ok.ensures.survives.crash clean db left);
    }

pub returns-in-Err-clause-commits : goal.returns-in-Err-clause-commits
returns-in-Err-clause-commits g c form was_last was_floor owner cluster named =
    let old = state g.S.Store c.args.conn.now in
    record {
      ready = λ _ _. tt;
      changes = λ _ _. tt;
      crash = λ clean ready db left.
          or_commits
          (λ commits. let did = floors_in c.args.last c.args.floor form was_last was_floor owner cluster old ready named db (rw c.both_numbers.ensures at commits) in (did.0, (did.1, did.2)))
          (c.in-Err.ensures.survives.crash clean db left);
    }
