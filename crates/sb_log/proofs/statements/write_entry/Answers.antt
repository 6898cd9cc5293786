use Rattle.sqlite.specs.Held.{state}
use Rattle.sb_log.proofs.Writing.{write_enters, write_spares, write_ready, write_commits, or_commits}
use Rattle.sb_log.proofs.statements.write_entry.Goals as goal

pub returns-in-Ok-clause-commits : goal.returns-in-Ok-clause-commits
returns-in-Ok-clause-commits g c =
    let old = state g.S.Store c.args.conn.now in
    let new = state g.S.Store c.execute.new.self in
    record {
      ready = λ clean ready. write_ready c.args.entry.now c.requires.kept old ready new c.in-Ok.field-0 (rw c.cells_of.ensures at (c.in-Ok.ensures.runs clean));
      changes = λ clean ready. (
        write_enters c.args.entry.now c.requires.kept old ready new c.in-Ok.field-0 (rw c.cells_of.ensures at (c.in-Ok.ensures.runs clean)),
        write_spares c.args.entry.now c.requires.kept old ready new c.in-Ok.field-0 (rw c.cells_of.ensures at (c.in-Ok.ensures.runs clean)),
      );
      crash = λ clean ready db left.
          or_commits (λ commits. write_commits c.args.entry.now c.requires.kept old ready db (rw c.cells_of.ensures at commits)) (c.in-Ok.ensures.survives.crash clean db left);
    }

pub returns-in-Err-clause-commits : goal.returns-in-Err-clause-commits
returns-in-Err-clause-commits g c =
    let old = state g.S.Store c.args.conn.now in
    record {
      ready = λ _ _. tt;
      changes = λ _ _. tt;
      crash = λ clean ready db left.
          or_commits (λ commits. write_commits c.args.entry.now c.requires.kept old ready db (rw c.cells_of.ensures at commits)) (c.in-Err.ensures.survives.crash clean db left);
    }
