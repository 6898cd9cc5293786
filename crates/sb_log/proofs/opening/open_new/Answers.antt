use Rattle.std.proofs.Common.{length, refl, sym, ap, inl, inr, ◌∙◌}
use Rattle.sqlite.specs.Effect.{Database}
use Rattle.sqlite.specs.Held.{state}
use Rattle.sqlite.specs.State.{HasCleanDisk}
use Rattle.sb_types.specs.Records.{Table}
use Rattle.sb_log.proofs.Founding.{was_clean, never_some}
use Rattle.sb_log.proofs.Unique.{one_table}
use Rattle.sb_log.proofs.opening.open_new.Goals as goal

pub returns-then-not-is_empty-clause-whole : goal.returns-then-not-is_empty-clause-whole
returns-then-not-is_empty-clause-whole g c clean ready t are none =
    let same = one_table _ t c.in_ok-table.table are (c.in_ok-table.ensures.rows clean ready) in
    absurd (never_some _ _ refl (ap (λ (x : Table). length x.entries) (same ∙ none)) (sym c.is_empty.ensures.count ∙ c.if-not-is_empty.true))

pub returns-in-Ok-clause-ready : goal.returns-in-Ok-clause-ready
returns-in-Ok-clause-ready g c clean ready =
    let mid = state g.S.Store c.read_table.new.conn in
    let clean1 : HasCleanDisk mid = was_clean _ _ clean c.write_meta.ensures.clean in
    c.in-Ok.ensures.commits.ready clean (c.in_ok-table.ensures.ready clean1 ready tt).0

pub returns-in-Ok-clause-same : goal.returns-in-Ok-clause-same
returns-in-Ok-clause-same g c clean ready =
    let mid = state g.S.Store c.read_table.new.conn in
    let clean1 : HasCleanDisk mid = was_clean _ _ clean c.write_meta.ensures.clean in
    let read = c.in_ok-table.ensures.ready clean1 ready tt in
    (c.in-Ok.ensures.commits.changes clean read.0).0 ∙ ap (λ (d : Database). d.trees 1) read.1

pub returns-in-Ok-clause-meta : goal.returns-in-Ok-clause-meta
returns-in-Ok-clause-meta g c clean ready none =
    let mid = state g.S.Store c.read_table.new.conn in
    let clean1 : HasCleanDisk mid = was_clean _ _ clean c.write_meta.ensures.clean in
    let read = c.in_ok-table.ensures.ready clean1 ready tt in
    (c.in-Ok.ensures.commits.changes clean read.0).1 (ap (λ (d : Database). d.trees 0) read.1 ∙ none)

pub returns-in-Ok-clause-crash : goal.returns-in-Ok-clause-crash
returns-in-Ok-clause-crash g c clean ready none db left =
    let mid = state g.S.Store c.read_table.new.conn in
    let clean1 : HasCleanDisk mid = was_clean _ _ clean c.write_meta.ensures.clean in
    let read = c.in_ok-table.ensures.ready clean1 ready tt in
    elim (c.in-Ok.ensures.commits.crash clean read.0 db left) [
      | inl was ↦ inl (c.read_table.ensures.crash clean1 ready db was)
      | inr did ↦ inr (did.0, did.1.0 ∙ ap (λ (d : Database). d.trees 1) read.1, did.1.1 (ap (λ (d : Database). d.trees 0) read.1 ∙ none))
    ]

pub returns-in-Err-clause-crash : goal.returns-in-Err-clause-crash
returns-in-Err-clause-crash g c clean ready none db left =
    let mid = state g.S.Store c.read_table.new.conn in
    let clean1 : HasCleanDisk mid = was_clean _ _ clean c.write_meta.ensures.clean in
    let read = c.in_ok-table.ensures.ready clean1 ready tt in
    elim (c.in-Err.ensures.commits.crash clean read.0 db left) [
      | inl was ↦ inl (c.read_table.ensures.crash clean1 ready db was)
      | inr did ↦ inr (did.0, did.1.0 ∙ ap (λ (d : Database). d.trees 1) read.1, did.1.1 (ap (λ (d : Database). d.trees 0) read.1 ∙ none))
    ]
