use Rattle.std.proofs.Common.{inl, inr, List, sym, subst}
use Rattle.sqlite_value.specs.Order.{Row}
use Rattle.sqlite.specs.Held.{state}
use Rattle.sqlite.specs.State.{HasCleanDisk}
use Rattle.sb_log.specs.Form.{newest_form}
use Rattle.sb_log.specs.Opening.{IsNamedIn}
use Rattle.sb_log.specs.Rows.{AreRowsOf}
use Rattle.sb_log.proofs.Founding.{was_clean, raised_in, cleared_in}
use Rattle.sb_log.proofs.Writing.{or_commits, so_on_ok}
use Rattle.sb_log.proofs.opening.accept_from.Goals as goal

pub returns-in_err-raise_from-clause-crash : goal.returns-in_err-raise_from-clause-crash
returns-in_err-raise_from-clause-crash g c clean ready is last owner cluster named t are fits can db left =
    let trees = (state g.S.Store c.args.conn.now).now.trees in
    or_commits (λ did. inl (raised_in c.args.form owner cluster last c.args.floor (trees 0) (trees 1) named t are fits can db did))
    (c.in_err-raise_from.ensures.crash clean ready last c.args.floor owner cluster named db left)

pub returns-then-has_dead-clause-crash : goal.returns-then-has_dead-clause-crash
returns-then-has_dead-clause-crash g c clean ready is last owner cluster named t are fits can db left =
    let trees = (state g.S.Store c.args.conn.now).now.trees in
    let mid = state g.S.Store c.raise_from.new.conn in
    let clean1 : HasCleanDisk mid = was_clean _ _ clean c.drop_removals.ensures.clean in
    let raised = c.in_ok-raise_from.ensures in
    let same = raised.rows clean1 ready last c.args.floor owner cluster named in
    let second = raised.meta clean1 ready is last c.args.floor owner cluster named in
    elim (c.drop_removals.ensures.commits.crash clean (raised.ready clean1 ready last c.args.floor owner cluster named) db left) [
      | inl was ↦ or_commits (λ did. inl (raised_in c.args.form owner cluster last c.args.floor (trees 0) (trees 1) named t are fits can db did)) (raised.crash clean1 ready last c.args.floor owner cluster named db was)
      | inr drops ↦ inr (inr (cleared_in c.args.form owner cluster last c.args.floor (trees 0) (trees 1) named t are fits can mid.now.trees db same second drops))
    ]

pub returns-clause-crash : goal.returns-clause-crash
returns-clause-crash g c clean ready is last owner cluster named t are fits can db left =
    let trees = (state g.S.Store c.args.conn.now).now.trees in
    or_commits (λ did. inl (raised_in c.args.form owner cluster last c.args.floor (trees 0) (trees 1) named t are fits can db did))
    (c.in_ok-raise_from.ensures.crash clean ready last c.args.floor owner cluster named db left)

pub returns-then-has_dead-clause-ready : goal.returns-then-has_dead-clause-ready
returns-then-has_dead-clause-ready g c clean ready last owner cluster named =
    let mid = state g.S.Store c.raise_from.new.conn in
    let clean1 : HasCleanDisk mid = was_clean _ _ clean c.drop_removals.ensures.clean in
    c.drop_removals.ensures.commits.ready clean (c.in_ok-raise_from.ensures.ready clean1 ready last c.args.floor owner cluster named)

pub returns-then-has_dead-clause-rows : goal.returns-then-has_dead-clause-rows
returns-then-has_dead-clause-rows g c clean ready last owner cluster named t are _ =
    let mid = state g.S.Store c.raise_from.new.conn in
    let clean1 : HasCleanDisk mid = was_clean _ _ clean c.drop_removals.ensures.clean in
    let raised = c.in_ok-raise_from.ensures in
    let same = raised.rows clean1 ready last c.args.floor owner cluster named in
    so_on_ok c.drop_removals.result (c.drop_removals.ensures.commits.changes clean (raised.ready clean1 ready last c.args.floor owner cluster named))
    (λ did. did.0 t (subst (λ (rows : List Row). AreRowsOf t rows) (sym same) are))

pub returns-then-has_dead-clause-meta : goal.returns-then-has_dead-clause-meta
returns-then-has_dead-clause-meta g c clean ready is last owner cluster named =
    let mid = state g.S.Store c.raise_from.new.conn in
    let clean1 : HasCleanDisk mid = was_clean _ _ clean c.drop_removals.ensures.clean in
    let raised = c.in_ok-raise_from.ensures in
    let second = raised.meta clean1 ready is last c.args.floor owner cluster named in
    so_on_ok c.drop_removals.result (c.drop_removals.ensures.commits.changes clean (raised.ready clean1 ready last c.args.floor owner cluster named))
    (λ did. subst (IsNamedIn newest_form owner cluster last c.args.floor) (sym did.1) second)
