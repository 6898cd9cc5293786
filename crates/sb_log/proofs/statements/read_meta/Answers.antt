use Rattle.sqlite.specs.Held.{state}
use Rattle.sb_log.specs.Form.{meta_schema, log_schema}
use Rattle.sb_log.proofs.Texts.{meta_rows_is, meta_rows_plain, meta_alone_is, meta_alone_plain}
use Rattle.sb_log.proofs.Reading.{meta_read, meta_ready, meta_unchanged, meta_commits}
use Rattle.sb_log.proofs.statements.read_meta.Goals as goal

pub returns-in-Ok-clause-rows : goal.returns-in-Ok-clause-rows
returns-in-Ok-clause-rows g c clean ready =
    meta_read log_schema meta_rows_is meta_rows_plain (state g.S.Store c.args.conn.now) (state g.S.Store c.query_all.new.self) c.in-Ok.rows.items ready.schema (c.in-Ok.ensures.ok clean)

pub returns-in-Ok-clause-ready : goal.returns-in-Ok-clause-ready
returns-in-Ok-clause-ready g c clean ready = meta_ready (state g.S.Store c.args.conn.now) (state g.S.Store c.query_all.new.self) c.in-Ok.rows.items ready (c.in-Ok.ensures.ok clean)

pub returns-in-Ok-clause-alone : goal.returns-in-Ok-clause-alone
returns-in-Ok-clause-alone g c clean has =
    meta_read meta_schema meta_alone_is meta_alone_plain (state g.S.Store c.args.conn.now) (state g.S.Store c.query_all.new.self) c.in-Ok.rows.items has (c.in-Ok.ensures.ok clean)

pub returns-in-Ok-clause-same : goal.returns-in-Ok-clause-same
returns-in-Ok-clause-same g c clean has =
    let same = meta_unchanged meta_schema meta_alone_is meta_alone_plain (state g.S.Store c.args.conn.now) (state g.S.Store c.query_all.new.self) c.in-Ok.rows.items has (c.in-Ok.ensures.ok clean) in
    (same.0.now_is, same.0.mode)

pub returns-in-Ok-clause-crash : goal.returns-in-Ok-clause-crash
returns-in-Ok-clause-crash g c clean ready db left = meta_commits log_schema meta_rows_plain (state g.S.Store c.args.conn.now) db ready.schema (c.in-Ok.ensures.survives.crash clean db left)

pub returns-in-Ok-clause-crash_alone : goal.returns-in-Ok-clause-crash_alone
returns-in-Ok-clause-crash_alone g c clean has db left = meta_commits meta_schema meta_alone_plain (state g.S.Store c.args.conn.now) db has (c.in-Ok.ensures.survives.crash clean db left)

pub returns-in-Err-clause-crash : goal.returns-in-Err-clause-crash
returns-in-Err-clause-crash g c clean ready db left = meta_commits log_schema meta_rows_plain (state g.S.Store c.args.conn.now) db ready.schema (c.in-Err.ensures.survives.crash clean db left)

pub returns-in-Err-clause-crash_alone : goal.returns-in-Err-clause-crash_alone
returns-in-Err-clause-crash_alone g c clean has db left = meta_commits meta_schema meta_alone_plain (state g.S.Store c.args.conn.now) db has (c.in-Err.ensures.survives.crash clean db left)
