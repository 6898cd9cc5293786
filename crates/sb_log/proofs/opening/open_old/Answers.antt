use Rattle.std.proofs.Common.{◌⊎◌, inl, inr, true≢false, [], ◌∷◌, map, sym, ap, subst, ◌∙◌}
use Rattle.sqlite_value.specs.Order.{Row}
use Rattle.sqlite.specs.Effect.{Database}
use Rattle.sqlite.specs.Held.{state}
use Rattle.sqlite.specs.State.{HasCleanDisk}
use Rattle.sb_log.specs.Opening.{meta_cells, IsRaised, IsCleared}
use Rattle.sb_log.specs.Rows.{AreRowsOf, CanSay}
use Rattle.sb_log.proofs.Contents.{all_live, cleared_holds}
use Rattle.sb_log.proofs.Founding.{was_clean, form_read}
use Rattle.sb_log.proofs.Unique.{one_table}
use Rattle.sb_log.proofs.opening.open_old.Goals as goal

pub returns-in_err-table-clause-whole : goal.returns-in_err-table-clause-whole
returns-in_err-table-clause-whole g c clean ready form last floor is t fits can are =
    let m = c.in_ok-meta.meta in
    let found = c.in_ok-found.found in
    let same = one_table _ t found are (c.in_ok-found.ensures.rows clean ready) in
    let says = c.in_ok-meta.ensures.whole form last floor (form_read form t fits) is in
    let here : CanSay m.last m.floor found.entries = rw (says.1.0, says.1.1, same) can in
    let ok = c.in_err-table.ensures.whole here in
    absurd (true≢false (sym ok))

pub returns-in-Ok-clause-holds : goal.returns-in-Ok-clause-holds
returns-in-Ok-clause-holds g c clean ready one =
    let m = c.in_ok-meta.meta in
    let found = c.in_ok-found.found in
    let mid = state g.S.Store c.read_whole.new.conn in
    let clean1 : HasCleanDisk mid = was_clean _ _ clean c.accept_from.ensures.clean in
    let ready1 = c.in_ok-found.ensures.ready clean1 ready tt in
    let named = ap (λ (d : Database). map meta_cells (d.trees 0)) ready1.1 ∙ one ∙ ap (λ (r : Row). r ∷ []) c.in_ok-meta.ensures.row in
    let t = c.in_ok-table.table in
    let are = subst (λ (d : Database). AreRowsOf found (d.trees 1)) (sym ready1.1) (c.in_ok-found.ensures.rows clean1 ready) in
    let meta = c.in-Ok.ensures.meta clean ready1.0 c.in_ok-meta.ensures.form m.last c.args.owner.now c.args.cluster.now named in
    let rows = c.in-Ok.ensures.rows clean ready1.0 m.last c.args.owner.now c.args.cluster.now named found are
    (λ none. all_live m.last m.floor found t c.in_ok-table.ensures.content (rw (← c.len.ensures.count, ← c.len-rows.ensures.count) none)) in
    cleared_holds c.args.owner.now c.args.cluster.now m.last m.floor found c.in_ok-found.ensures.plain c.in_ok-table.ensures.can (state g.S.Store c.accept_from.new.conn).now.trees meta rows
    t c.in_ok-table.ensures.content c.in_ok-table.ensures.table

pub returns-in-Ok-clause-crash : goal.returns-in-Ok-clause-crash
returns-in-Ok-clause-crash g c clean ready one db left =
    let m = c.in_ok-meta.meta in
    let found = c.in_ok-found.found in
    let mid = state g.S.Store c.read_whole.new.conn in
    let clean1 : HasCleanDisk mid = was_clean _ _ clean c.accept_from.ensures.clean in
    let ready1 = c.in_ok-found.ensures.ready clean1 ready tt in
    let named = ap (λ (d : Database). map meta_cells (d.trees 0)) ready1.1 ∙ one ∙ ap (λ (r : Row). r ∷ []) c.in_ok-meta.ensures.row in
    let are = subst (λ (d : Database). AreRowsOf found (d.trees 1)) (sym ready1.1) (c.in_ok-found.ensures.rows clean1 ready) in
    let fits = c.in_ok-found.ensures.form c.in_ok-meta.ensures.form in
    elim (c.in-Ok.ensures.crash clean ready1.0 c.in_ok-meta.ensures.form m.last c.args.owner.now c.args.cluster.now named found are fits c.in_ok-table.ensures.can db left) [
      | inl was ↦ inl (c.read_whole.ensures.crash clean1 ready db was)
      | inr did ↦ inr (subst (λ (d : Database). IsRaised c.args.owner.now c.args.cluster.now (d.trees 0) (d.trees 1) db ⊎ IsCleared c.args.owner.now c.args.cluster.now (d.trees 0) (d.trees 1) db) ready1.1 did)
    ]

pub returns-in-Err-clause-crash : goal.returns-in-Err-clause-crash
returns-in-Err-clause-crash g c clean ready one db left =
    let m = c.in_ok-meta.meta in
    let found = c.in_ok-found.found in
    let mid = state g.S.Store c.read_whole.new.conn in
    let clean1 : HasCleanDisk mid = was_clean _ _ clean c.accept_from.ensures.clean in
    let ready1 = c.in_ok-found.ensures.ready clean1 ready tt in
    let named = ap (λ (d : Database). map meta_cells (d.trees 0)) ready1.1 ∙ one ∙ ap (λ (r : Row). r ∷ []) c.in_ok-meta.ensures.row in
    let are = subst (λ (d : Database). AreRowsOf found (d.trees 1)) (sym ready1.1) (c.in_ok-found.ensures.rows clean1 ready) in
    let fits = c.in_ok-found.ensures.form c.in_ok-meta.ensures.form in
    elim (c.in-Err.ensures.crash clean ready1.0 c.in_ok-meta.ensures.form m.last c.args.owner.now c.args.cluster.now named found are fits c.in_ok-table.ensures.can db left) [
      | inl was ↦ inl (c.read_whole.ensures.crash clean1 ready db was)
      | inr did ↦ inr (subst (λ (d : Database). IsRaised c.args.owner.now c.args.cluster.now (d.trees 0) (d.trees 1) db ⊎ IsCleared c.args.owner.now c.args.cluster.now (d.trees 0) (d.trees 1) db) ready1.1 did)
    ]
