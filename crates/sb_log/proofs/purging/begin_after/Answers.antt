use Rattle.sqlite.specs.Held.{state}
use Rattle.sb_log.proofs.Beginning.{begins_by, begins_in}
use Rattle.sb_log.proofs.Writing.{or_commits}
use Rattle.sb_log.proofs.purging.begin_after.Goals as goal

pub returns-clause-commits : goal.returns-clause-commits
returns-clause-commits g c owner cluster holds =
    let old = state g.S.Store c.args.conn.now in
    let new = state g.S.Store c.write_floor.new.conn in
    let wrote = c.write_floor.ensures.commits 2 holds.last 0 owner cluster holds.named in
    record {
      ready = wrote.ready;
      changes = λ clean ready. begins_by owner cluster c.args.after old.now.trees new.now.trees c.requires holds c.write_floor.result (wrote.changes clean ready);
      crash = λ clean ready db left.
          or_commits (λ did. (did.0, begins_in owner cluster c.args.after old.now.trees db c.requires holds did.1.0 did.1.1)) (wrote.crash clean ready db left);
    }
