use Rattle.std.proofs.Common.{sym, ap, ◌∙◌}
use Rattle.std.proofs.lemmas.Result.{err_from_is_err_and}
use Rattle.sqlite.specs.Effect.{Database}
use Rattle.sqlite.specs.Held.{state}
use Rattle.sqlite.specs.State.{HasCleanDisk}
use Rattle.sb_log.proofs.Founding.{was_clean, no_rows, none_mapped, nothing_there, never_some}
use Rattle.sb_log.proofs.opening.make_second.Goals as goal

pub returns-clause-makes : goal.returns-clause-makes
returns-clause-makes g c =
    let old = state g.S.Store c.args.conn.now in
    let mid = state g.S.Store c.read_meta.new.conn in
    let new = state g.S.Store c.make_writes.new.conn in
    let made = c.in_ok-make_writes.ensures.makes in
    let found = c.in_ok-found.ensures in
    let none = no_rows c.in_ok-found.found.items c.in_ok-found.found.len c.in_ok-found.found.ok.0 (sym c.is_empty.ensures ∙ c.if-not-is_empty.false) in
    record {
      schema = λ clean has.
          let was : HasCleanDisk mid = was_clean _ _ clean c.make_writes.ensures.clean in
          made.schema clean (ap (λ (d : Database). d.schema) (found.same was has).0 ∙ has);
      changes = λ clean has.
          let was : HasCleanDisk mid = was_clean _ _ clean c.make_writes.ensures.clean in
          let same = (found.same was has).0 in
          let did = made.changes clean (ap (λ (d : Database). d.schema) same ∙ has) in (
            none_mapped (old.now.trees 0) c.in_ok-found.found.items (found.alone was has) none,
            did.0 ∙ ap (λ (d : Database). d.trees 0) same,
            did.1,
          );
      sound = λ clean has.
          let was : HasCleanDisk mid = was_clean _ _ clean c.make_writes.ensures.clean in
          made.sound clean (ap (λ (d : Database). d.schema) (found.same was has).0 ∙ has);
      settled = λ clean has mode.
          let was : HasCleanDisk mid = was_clean _ _ clean c.make_writes.ensures.clean in
          let same = found.same was has in
          made.settled clean (ap (λ (d : Database). d.schema) same.0 ∙ has) (same.1 ∙ mode);
    }

pub returns-in_err-found-clause-makes : goal.returns-in_err-found-clause-makes
returns-in_err-found-clause-makes g c =
    let p = err_from_is_err_and c.from_residual.result c.from_residual.ensures.1 in
    rw p.1 (record { schema = λ _ _. tt; changes = λ _ _. tt; sound = λ _ _. tt; settled = λ _ _ _. tt })

pub returns-then-not-is_empty-clause-makes : goal.returns-then-not-is_empty-clause-makes
returns-then-not-is_empty-clause-makes g c = record { schema = λ _ _. tt; changes = λ _ _. tt; sound = λ _ _. tt; settled = λ _ _ _. tt }

pub returns-in_err-make_writes-clause-makes : goal.returns-in_err-make_writes-clause-makes
returns-in_err-make_writes-clause-makes g c =
    let p = err_from_is_err_and c.from_residual-in_err-make_writes.result c.from_residual-in_err-make_writes.ensures.1 in
    rw p.1 (record { schema = λ _ _. tt; changes = λ _ _. tt; sound = λ _ _. tt; settled = λ _ _ _. tt })

pub returns-then-not-is_empty-clause-whole : goal.returns-then-not-is_empty-clause-whole
returns-then-not-is_empty-clause-whole g c clean has none =
    let few = nothing_there _ c.in_ok-found.found.items none (c.in_ok-found.ensures.alone clean has) in
    absurd (never_some c.in_ok-found.found.len _ c.in_ok-found.found.ok.0 few (sym c.is_empty.ensures ∙ c.if-not-is_empty.true))
