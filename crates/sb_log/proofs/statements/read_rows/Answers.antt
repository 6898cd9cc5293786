use Rattle.sqlite.specs.Held.{state}
use Rattle.sb_log.proofs.Reading.{rows_read, read_ready, read_commits}
use Rattle.sb_log.proofs.Whole.{rows_whole}
use Rattle.sb_log.proofs.statements.read_rows.Goals as goal

pub returns-in-Ok-clause-rows : goal.returns-in-Ok-clause-rows
returns-in-Ok-clause-rows g c clean has = rows_read (state g.S.Store c.args.conn.now) (state g.S.Store c.query_all.new.self) c.in-Ok.rows.items has (c.in-Ok.ensures.ok clean)

pub returns-in-Ok-clause-whole : goal.returns-in-Ok-clause-whole
returns-in-Ok-clause-whole g c clean has t are = rows_whole (state g.S.Store c.args.conn.now) (state g.S.Store c.query_all.new.self) c.in-Ok.rows.items has (c.in-Ok.ensures.ok clean) t are

pub returns-in-Ok-clause-ready : goal.returns-in-Ok-clause-ready
returns-in-Ok-clause-ready g c clean ready = read_ready (state g.S.Store c.args.conn.now) (state g.S.Store c.query_all.new.self) c.in-Ok.rows.items ready (c.in-Ok.ensures.ok clean)

pub returns-in-Ok-clause-crash : goal.returns-in-Ok-clause-crash
returns-in-Ok-clause-crash g c clean ready db left = read_commits (state g.S.Store c.args.conn.now) db ready (c.in-Ok.ensures.survives.crash clean db left)

pub returns-in-Err-clause-crash : goal.returns-in-Err-clause-crash
returns-in-Err-clause-crash g c clean ready db left = read_commits (state g.S.Store c.args.conn.now) db ready (c.in-Err.ensures.survives.crash clean db left)
