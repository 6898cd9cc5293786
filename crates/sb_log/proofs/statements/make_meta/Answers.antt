use Rattle.std.proofs.Common.{◌≡◌, refl}
use Rattle.sqlite.specs.Held.{state}
use Rattle.sqlite.specs.State.{HasCleanDisk}
use Rattle.sb_log.specs.Form.{meta_text, no_schema, meta_schema, meta_table}
use Rattle.sb_log.proofs.Texts.{make_meta_is, make_meta_plain, schema_is}
use Rattle.sb_log.proofs.Making.{creates, creates_in, commits}
use Rattle.sb_log.proofs.Writing.{or_commits}
use Rattle.sb_log.proofs.statements.make_meta.Goals as goal

pub returns-in-Ok-clause-makes : goal.returns-in-Ok-clause-makes
returns-in-Ok-clause-makes g c =
    let old = state g.S.Store c.args.conn.now in
    let new = state g.S.Store c.execute.new.self in
    let made = λ (clean : HasCleanDisk new) (has : old.now.schema ≡ no_schema). creates meta_text no_schema meta_schema meta_table make_meta_is make_meta_plain schema_is.0 refl old new c.in-Ok.field-0 has (c.in-Ok.ensures.runs clean) in
    record {
      schema = λ clean has. (made clean has).1;
      changes = λ clean has. (made clean has).2;
      sound = λ clean has. (made clean has).0.sound;
      settled = λ clean has mode. let did = commits old new _ _ _ _ (made clean has).0 mode in (did.0, did.1);
    }

pub returns-in-Err-clause-makes : goal.returns-in-Err-clause-makes
returns-in-Err-clause-makes g c = record { schema = λ _ _. tt; changes = λ _ _. tt; sound = λ _ _. tt; settled = λ _ _ _. tt }

pub returns-in-Ok-clause-crash : goal.returns-in-Ok-clause-crash
returns-in-Ok-clause-crash g c clean has db left =
    or_commits (λ commits. let m = creates_in meta_text no_schema meta_schema meta_table make_meta_is make_meta_plain schema_is.0 refl (state g.S.Store c.args.conn.now) db has commits in (m.0, m.1))
    (c.in-Ok.ensures.survives.crash clean db left)

pub returns-in-Err-clause-crash : goal.returns-in-Err-clause-crash
returns-in-Err-clause-crash g c clean has db left =
    or_commits (λ commits. let m = creates_in meta_text no_schema meta_schema meta_table make_meta_is make_meta_plain schema_is.0 refl (state g.S.Store c.args.conn.now) db has commits in (m.0, m.1))
    (c.in-Err.ensures.survives.crash clean db left)
