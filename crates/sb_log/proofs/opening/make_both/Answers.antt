use Rattle.std.proofs.Common.{inl, inr, ◌∙◌}
use Rattle.std.proofs.lemmas.Result.{err_from_is_err_and}
use Rattle.sqlite.specs.Held.{state}
use Rattle.sqlite.specs.State.{HasCleanDisk}
use Rattle.sb_log.proofs.Founding.{was_clean}
use Rattle.sb_log.proofs.Writing.{or_commits, so_on_ok}
use Rattle.sb_log.proofs.opening.make_both.Goals as goal

pub returns-clause-makes : goal.returns-clause-makes
returns-clause-makes g c =
    let old = state g.S.Store c.args.conn.now in
    let mid = state g.S.Store c.make_meta.new.conn in
    let second = c.make_writes.ensures.makes in
    let first = c.in_ok-make_meta.ensures.makes in
    record {
      schema = λ clean has. let was : HasCleanDisk mid = was_clean _ _ clean c.make_writes.ensures.clean in second.schema clean (first.schema was has);
      changes = λ clean has.
          let was : HasCleanDisk mid = was_clean _ _ clean c.make_writes.ensures.clean in
          so_on_ok c.make_writes.result (second.changes clean (first.schema was has)) (λ did. (did.0 ∙ first.changes was has, did.1));
      sound = λ clean has. let was : HasCleanDisk mid = was_clean _ _ clean c.make_writes.ensures.clean in second.sound clean (first.schema was has);
      settled = λ clean has mode.
          let was : HasCleanDisk mid = was_clean _ _ clean c.make_writes.ensures.clean in
          second.settled clean (first.schema was has) (first.settled was has mode).0;
    }

pub returns-in_err-make_meta-clause-makes : goal.returns-in_err-make_meta-clause-makes
returns-in_err-make_meta-clause-makes g c =
    let p = err_from_is_err_and c.from_residual.result c.from_residual.ensures.1 in
    rw p.1 (record { schema = λ _ _. tt; changes = λ _ _. tt; sound = λ _ _. tt; settled = λ _ _ _. tt })

pub returns-clause-crash : goal.returns-clause-crash
returns-clause-crash g c clean has db left =
    let mid = state g.S.Store c.make_meta.new.conn in
    let was : HasCleanDisk mid = was_clean _ _ clean c.make_writes.ensures.clean in
    let first = c.in_ok-make_meta.ensures in
    elim (c.make_writes.ensures.crash clean (first.makes.schema was has) db left) [
      | inl earlier ↦ or_commits (λ did. inl did) (first.crash was has db earlier)
      | inr did ↦ inr (inr (did.0, did.1 ∙ first.makes.changes was has, did.2))
    ]

pub returns-in_err-make_meta-clause-crash : goal.returns-in_err-make_meta-clause-crash
returns-in_err-make_meta-clause-crash g c clean has db left = or_commits (λ did. inl did) (c.in_err-make_meta.ensures.crash clean has db left)
