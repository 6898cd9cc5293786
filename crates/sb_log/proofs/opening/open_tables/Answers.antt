use Rattle.std.proofs.Common.{map, inl, inr, refl, sym, ap, subst, ◌∙◌}
use Rattle.std.proofs.lemmas.Result.{err_from_is_err_and}
use Rattle.sqlite.specs.Effect.{Database}
use Rattle.sqlite.specs.Held.{state}
use Rattle.sqlite.specs.State.{HasCleanDisk}
use Rattle.sb_log.specs.Opening.{meta_cells, Completes}
use Rattle.sb_log.specs.declared.schema.Made.TheVariants.{Both}
use Rattle.sb_log.proofs.Founding.{was_clean, no_item, one_item, none_mapped, one_mapped, opens_new, opens_old, holds_new, or_grows, names_too, accepts_too, still_new, still_old, still_rows, still_empty, still_named, never_more, six_cells, or_another, read_so, not_unread, not_two, or_theirs, store_wants, making_opens, making_spares, reading_opens, reading_spares, so_refused}
use Rattle.sb_log.proofs.opening.open_tables.Goals as goal

pub returns-in-empty-clause-opens : goal.returns-in-empty-clause-opens
returns-in-empty-clause-opens g c clean =
    let old = state g.S.Store c.args.conn.now in
    let mid = state g.S.Store c.make_tables.new.conn in
    let read = state g.S.Store c.read_meta.new.conn in
    let clean2 : HasCleanDisk read = was_clean _ _ clean c.open_new.ensures.clean in
    let clean1 : HasCleanDisk mid = was_clean _ _ clean2 c.read_meta.ensures.clean in
    let prepared = c.in_ok-make_tables.ensures.prepared clean1 in
    let completes = c.in_ok-make_tables.ensures.completes clean1 in
    let ready = c.in_ok-found.ensures.ready clean2 prepared in
    let none = no_item c.in_ok-found.found.items (rw c.as_slice.ensures.value at c.in-empty.len_below) in
    opens_new c.args.owner.now c.args.cluster.now old.now mid.now c.in_ok-found.found.items completes (c.in_ok-found.ensures.rows clean2 prepared) read.now ready.1 c.open_new.result none
    (c.open_new.ensures.rows clean ready.0) c.open_new.ensures.empty

pub returns-in-empty-clause-holds : goal.returns-in-empty-clause-holds
returns-in-empty-clause-holds g c clean =
    let mid = state g.S.Store c.make_tables.new.conn in
    let read = state g.S.Store c.read_meta.new.conn in
    let clean2 : HasCleanDisk read = was_clean _ _ clean c.open_new.ensures.clean in
    let clean1 : HasCleanDisk mid = was_clean _ _ clean2 c.read_meta.ensures.clean in
    let prepared = c.in_ok-make_tables.ensures.prepared clean1 in
    let completes = c.in_ok-make_tables.ensures.completes clean1 in
    let ready = c.in_ok-found.ensures.ready clean2 prepared in
    let none = no_item c.in_ok-found.found.items (rw c.as_slice.ensures.value at c.in-empty.len_below) in
    let empty = none_mapped (mid.now.trees 0) c.in_ok-found.found.items (c.in_ok-found.ensures.rows clean2 prepared) none in
    let named = c.open_new.ensures.meta clean ready.0 (ap (λ (d : Database). d.trees 0) ready.1 ∙ empty) in
    holds_new c.args.owner.now c.args.cluster.now c.open_new.result (read.now.trees 1) (state g.S.Store c.open_new.new.conn).now.trees (c.open_new.ensures.rows clean ready.0) (c.open_new.ensures.same clean ready.0) named

pub returns-in-empty-clause-still : goal.returns-in-empty-clause-still
returns-in-empty-clause-still g c clean =
    let old = state g.S.Store c.args.conn.now in
    let mid = state g.S.Store c.make_tables.new.conn in
    let read = state g.S.Store c.read_meta.new.conn in
    let clean2 : HasCleanDisk read = was_clean _ _ clean c.open_new.ensures.clean in
    let clean1 : HasCleanDisk mid = was_clean _ _ clean2 c.read_meta.ensures.clean in
    let prepared = c.in_ok-make_tables.ensures.prepared clean1 in
    let completes = c.in_ok-make_tables.ensures.completes clean1 in
    let ready = c.in_ok-found.ensures.ready clean2 prepared in
    let none = no_item c.in_ok-found.found.items (rw c.as_slice.ensures.value at c.in-empty.len_below) in
    let empty = none_mapped (mid.now.trees 0) c.in_ok-found.found.items (c.in_ok-found.ensures.rows clean2 prepared) none in
    let named = c.open_new.ensures.meta clean ready.0 (ap (λ (d : Database). d.trees 0) ready.1 ∙ empty) in
    still_new c.args.owner.now c.args.cluster.now old.now mid.now completes (state g.S.Store c.open_new.new.conn).now.trees c.open_new.result empty named

pub returns-in-empty-clause-crash : goal.returns-in-empty-clause-crash
returns-in-empty-clause-crash g c clean db left =
    let old = state g.S.Store c.args.conn.now in
    let mid = state g.S.Store c.make_tables.new.conn in
    let read = state g.S.Store c.read_meta.new.conn in
    let clean2 : HasCleanDisk read = was_clean _ _ clean c.open_new.ensures.clean in
    let clean1 : HasCleanDisk mid = was_clean _ _ clean2 c.read_meta.ensures.clean in
    let prepared = c.in_ok-make_tables.ensures.prepared clean1 in
    let completes = c.in_ok-make_tables.ensures.completes clean1 in
    let ready = c.in_ok-found.ensures.ready clean2 prepared in
    let none = no_item c.in_ok-found.found.items (rw c.as_slice.ensures.value at c.in-empty.len_below) in
    let empty = none_mapped (mid.now.trees 0) c.in_ok-found.found.items (c.in_ok-found.ensures.rows clean2 prepared) none in
    elim (c.open_new.ensures.crash clean ready.0 (ap (λ (d : Database). d.trees 0) ready.1 ∙ empty) db left) [
      | inl was ↦ or_grows c.args.owner.now c.args.cluster.now old.now db (c.make_tables.ensures.crash clean1 db (c.read_meta.ensures.crash clean2 prepared db was))
      | inr names ↦ inr (names_too c.args.owner.now c.args.cluster.now old.now mid.now read.now db completes ready.1 empty names)
    ]

pub returns-in-empty-clause-whole : goal.returns-in-empty-clause-whole
returns-in-empty-clause-whole g c clean t opens =
    let old = state g.S.Store c.args.conn.now in
    let mid = state g.S.Store c.make_tables.new.conn in
    let read = state g.S.Store c.read_meta.new.conn in
    let clean2 : HasCleanDisk read = was_clean _ _ clean c.open_new.ensures.clean in
    let clean1 : HasCleanDisk mid = was_clean _ _ clean2 c.read_meta.ensures.clean in
    let prepared = c.in_ok-make_tables.ensures.prepared clean1 in
    let completes = c.in_ok-make_tables.ensures.completes clean1 in
    let ready = c.in_ok-found.ensures.ready clean2 prepared in
    let none = no_item c.in_ok-found.found.items (rw c.as_slice.ensures.value at c.in-empty.len_below) in
    let empty = none_mapped (mid.now.trees 0) c.in_ok-found.found.items (c.in_ok-found.ensures.rows clean2 prepared) none in
    c.open_new.ensures.whole clean ready.0 opens.table (still_rows c.args.owner.now c.args.cluster.now old.now mid.now t completes opens read.now ready.1)
    (still_empty c.args.owner.now c.args.cluster.now old.now mid.now t completes opens empty)

pub returns-in-len1-clause-opens : goal.returns-in-len1-clause-opens
returns-in-len1-clause-opens g c clean =
    let old = state g.S.Store c.args.conn.now in
    let mid = state g.S.Store c.make_tables.new.conn in
    let read = state g.S.Store c.read_meta.new.conn in
    let clean2 : HasCleanDisk read = was_clean _ _ clean c.open_old.ensures.clean in
    let clean1 : HasCleanDisk mid = was_clean _ _ clean2 c.read_meta.ensures.clean in
    let prepared = c.in_ok-make_tables.ensures.prepared clean1 in
    let completes = c.in_ok-make_tables.ensures.completes clean1 in
    let ready = c.in_ok-found.ensures.ready clean2 prepared in
    let one = sym c.as_slice.ensures.value ∙ one_item c.as_slice.result.now c.row-item.result c.in-len1.len_at_least c.in-len1.len_below c.row-item.is in
    let has = one_mapped (mid.now.trees 0) c.in_ok-found.found.items c.row-item.result (c.in_ok-found.ensures.rows clean2 prepared) one in
    let says = ap (λ (d : Database). map meta_cells (d.trees 0)) ready.1 ∙ has in
    opens_old c.args.owner.now c.args.cluster.now old.now mid.now c.in_ok-found.found.items completes (c.in_ok-found.ensures.rows clean2 prepared) read.now ready.1 c.open_old.result (c.open_old.ensures.found clean ready.0 says)

pub returns-in-len1-clause-ready : goal.returns-in-len1-clause-ready
returns-in-len1-clause-ready g c clean =
    let mid = state g.S.Store c.make_tables.new.conn in
    let read = state g.S.Store c.read_meta.new.conn in
    let clean2 : HasCleanDisk read = was_clean _ _ clean c.open_old.ensures.clean in
    let clean1 : HasCleanDisk mid = was_clean _ _ clean2 c.read_meta.ensures.clean in
    let prepared = c.in_ok-make_tables.ensures.prepared clean1 in
    let ready = c.in_ok-found.ensures.ready clean2 prepared in
    let one = sym c.as_slice.ensures.value ∙ one_item c.as_slice.result.now c.row-item.result c.in-len1.len_at_least c.in-len1.len_below c.row-item.is in
    let has = one_mapped (mid.now.trees 0) c.in_ok-found.found.items c.row-item.result (c.in_ok-found.ensures.rows clean2 prepared) one in
    let says = ap (λ (d : Database). map meta_cells (d.trees 0)) ready.1 ∙ has in
    c.open_old.ensures.ready clean ready.0 says

pub returns-in-len1-clause-holds : goal.returns-in-len1-clause-holds
returns-in-len1-clause-holds g c clean =
    let mid = state g.S.Store c.make_tables.new.conn in
    let read = state g.S.Store c.read_meta.new.conn in
    let clean2 : HasCleanDisk read = was_clean _ _ clean c.open_old.ensures.clean in
    let clean1 : HasCleanDisk mid = was_clean _ _ clean2 c.read_meta.ensures.clean in
    let prepared = c.in_ok-make_tables.ensures.prepared clean1 in
    let ready = c.in_ok-found.ensures.ready clean2 prepared in
    let one = sym c.as_slice.ensures.value ∙ one_item c.as_slice.result.now c.row-item.result c.in-len1.len_at_least c.in-len1.len_below c.row-item.is in
    let has = one_mapped (mid.now.trees 0) c.in_ok-found.found.items c.row-item.result (c.in_ok-found.ensures.rows clean2 prepared) one in
    let says = ap (λ (d : Database). map meta_cells (d.trees 0)) ready.1 ∙ has in
    c.open_old.ensures.holds clean ready.0 says

pub returns-in-len1-clause-still : goal.returns-in-len1-clause-still
returns-in-len1-clause-still g c clean =
    let old = state g.S.Store c.args.conn.now in
    let mid = state g.S.Store c.make_tables.new.conn in
    let read = state g.S.Store c.read_meta.new.conn in
    let clean2 : HasCleanDisk read = was_clean _ _ clean c.open_old.ensures.clean in
    let clean1 : HasCleanDisk mid = was_clean _ _ clean2 c.read_meta.ensures.clean in
    let prepared = c.in_ok-make_tables.ensures.prepared clean1 in
    let completes = c.in_ok-make_tables.ensures.completes clean1 in
    let ready = c.in_ok-found.ensures.ready clean2 prepared in
    let one = sym c.as_slice.ensures.value ∙ one_item c.as_slice.result.now c.row-item.result c.in-len1.len_at_least c.in-len1.len_below c.row-item.is in
    let has = one_mapped (mid.now.trees 0) c.in_ok-found.found.items c.row-item.result (c.in_ok-found.ensures.rows clean2 prepared) one in
    let says = ap (λ (d : Database). map meta_cells (d.trees 0)) ready.1 ∙ has in
    still_old c.args.owner.now c.args.cluster.now old.now mid.now completes (state g.S.Store c.open_old.new.conn).now.trees c.open_old.result read.now ready.1 (c.open_old.ensures.still clean ready.0 says)

pub returns-in-len1-clause-crash : goal.returns-in-len1-clause-crash
returns-in-len1-clause-crash g c clean db left =
    let old = state g.S.Store c.args.conn.now in
    let mid = state g.S.Store c.make_tables.new.conn in
    let read = state g.S.Store c.read_meta.new.conn in
    let clean2 : HasCleanDisk read = was_clean _ _ clean c.open_old.ensures.clean in
    let clean1 : HasCleanDisk mid = was_clean _ _ clean2 c.read_meta.ensures.clean in
    let prepared = c.in_ok-make_tables.ensures.prepared clean1 in
    let completes = c.in_ok-make_tables.ensures.completes clean1 in
    let ready = c.in_ok-found.ensures.ready clean2 prepared in
    let one = sym c.as_slice.ensures.value ∙ one_item c.as_slice.result.now c.row-item.result c.in-len1.len_at_least c.in-len1.len_below c.row-item.is in
    let has = one_mapped (mid.now.trees 0) c.in_ok-found.found.items c.row-item.result (c.in_ok-found.ensures.rows clean2 prepared) one in
    let says = ap (λ (d : Database). map meta_cells (d.trees 0)) ready.1 ∙ has in
    elim (c.open_old.ensures.crash clean ready.0 says db left) [
      | inl was ↦ or_grows c.args.owner.now c.args.cluster.now old.now db (c.make_tables.ensures.crash clean1 db (c.read_meta.ensures.crash clean2 prepared db was))
      | inr did ↦ inr (accepts_too c.args.owner.now c.args.cluster.now old.now mid.now read.now db completes ready.1 did)
    ]

pub returns-in-len1-clause-whole : goal.returns-in-len1-clause-whole
returns-in-len1-clause-whole g c clean t opens =
    let old = state g.S.Store c.args.conn.now in
    let mid = state g.S.Store c.make_tables.new.conn in
    let read = state g.S.Store c.read_meta.new.conn in
    let clean2 : HasCleanDisk read = was_clean _ _ clean c.open_old.ensures.clean in
    let clean1 : HasCleanDisk mid = was_clean _ _ clean2 c.read_meta.ensures.clean in
    let prepared = c.in_ok-make_tables.ensures.prepared clean1 in
    let completes = c.in_ok-make_tables.ensures.completes clean1 in
    let ready = c.in_ok-found.ensures.ready clean2 prepared in
    let one = sym c.as_slice.ensures.value ∙ one_item c.as_slice.result.now c.row-item.result c.in-len1.len_at_least c.in-len1.len_below c.row-item.is in
    let has = one_mapped (mid.now.trees 0) c.in_ok-found.found.items c.row-item.result (c.in_ok-found.ensures.rows clean2 prepared) one in
    let named = still_named c.args.owner.now c.args.cluster.now old.now mid.now t completes opens c.row-item.result has in
    c.open_old.ensures.whole clean ready.0 named.0 named.1 named.2 named.4 opens.table named.3 named.5
    (still_rows c.args.owner.now c.args.cluster.now old.now mid.now t completes opens read.now ready.1)

pub returns-clause-whole : goal.returns-clause-whole
returns-clause-whole g c clean t opens =
    let old = state g.S.Store c.args.conn.now in
    let mid = state g.S.Store c.make_tables.new.conn in
    let clean1 : HasCleanDisk mid = was_clean _ _ clean c.read_meta.ensures.clean in
    let prepared = c.in_ok-make_tables.ensures.prepared clean1 in
    let completes = c.in_ok-make_tables.ensures.completes clean1 in
    absurd (never_more c.args.owner.now c.args.cluster.now old.now mid.now t completes opens c.in_ok-found.found.items (c.in_ok-found.ensures.rows clean prepared)
    (rw c.as_slice.ensures.value at c.in_default.len_at_least))

pub returns-in-len1-clause-others : goal.returns-in-len1-clause-others
returns-in-len1-clause-others g c clean =
    let old = state g.S.Store c.args.conn.now in
    let mid = state g.S.Store c.make_tables.new.conn in
    let read = state g.S.Store c.read_meta.new.conn in
    let clean2 : HasCleanDisk read = was_clean _ _ clean c.open_old.ensures.clean in
    let clean1 : HasCleanDisk mid = was_clean _ _ clean2 c.read_meta.ensures.clean in
    let prepared = c.in_ok-make_tables.ensures.prepared clean1 in
    let completes = c.in_ok-make_tables.ensures.completes clean1 in
    let one = sym c.as_slice.ensures.value ∙ one_item c.as_slice.result.now c.row-item.result c.in-len1.len_at_least c.in-len1.len_below c.row-item.is in
    let has = one_mapped (mid.now.trees 0) c.in_ok-found.found.items c.row-item.result (c.in_ok-found.ensures.rows clean2 prepared) one in
    or_another c.args.owner.now c.args.cluster.now old.now mid.now completes c.row-item.result has c.open_old.result c.open_old.ensures.others

pub returns-in-len1-clause-theirs : goal.returns-in-len1-clause-theirs
returns-in-len1-clause-theirs g c clean names =
    let old = state g.S.Store c.args.conn.now in
    let mid = state g.S.Store c.make_tables.new.conn in
    let read = state g.S.Store c.read_meta.new.conn in
    let clean2 : HasCleanDisk read = was_clean _ _ clean c.open_old.ensures.clean in
    let clean1 : HasCleanDisk mid = was_clean _ _ clean2 c.read_meta.ensures.clean in
    let prepared = c.in_ok-make_tables.ensures.prepared clean1 in
    let completes = c.in_ok-make_tables.ensures.completes clean1 in
    let one = sym c.as_slice.ensures.value ∙ one_item c.as_slice.result.now c.row-item.result c.in-len1.len_at_least c.in-len1.len_below c.row-item.is in
    let has = one_mapped (mid.now.trees 0) c.in_ok-found.found.items c.row-item.result (c.in_ok-found.ensures.rows clean2 prepared) one in
    or_theirs c.open_old.result (c.open_old.ensures.theirs (six_cells (mid.now.trees 0) c.row-item.result has)
    (read_so c.args.owner.now c.args.cluster.now old.now mid.now completes names c.row-item.result has))

pub returns-in-empty-clause-theirs : goal.returns-in-empty-clause-theirs
returns-in-empty-clause-theirs g c clean names =
    let old = state g.S.Store c.args.conn.now in
    let mid = state g.S.Store c.make_tables.new.conn in
    let read = state g.S.Store c.read_meta.new.conn in
    let clean2 : HasCleanDisk read = was_clean _ _ clean c.open_new.ensures.clean in
    let clean1 : HasCleanDisk mid = was_clean _ _ clean2 c.read_meta.ensures.clean in
    let prepared = c.in_ok-make_tables.ensures.prepared clean1 in
    let completes = c.in_ok-make_tables.ensures.completes clean1 in
    let none = no_item c.in_ok-found.found.items (rw c.as_slice.ensures.value at c.in-empty.len_below) in
    absurd (not_unread c.args.owner.now c.args.cluster.now old.now mid.now completes names c.in_ok-found.found.items (c.in_ok-found.ensures.rows clean2 prepared) none)

pub returns-clause-theirs : goal.returns-clause-theirs
returns-clause-theirs g c clean names =
    let old = state g.S.Store c.args.conn.now in
    let mid = state g.S.Store c.make_tables.new.conn in
    let clean1 : HasCleanDisk mid = was_clean _ _ clean c.read_meta.ensures.clean in
    let prepared = c.in_ok-make_tables.ensures.prepared clean1 in
    let completes = c.in_ok-make_tables.ensures.completes clean1 in
    absurd (not_two c.args.owner.now c.args.cluster.now old.now mid.now completes names c.in_ok-found.found.items (c.in_ok-found.ensures.rows clean prepared)
    (rw c.as_slice.ensures.value at c.in_default.len_at_least))

pub returns-in_err-make_tables-clause-theirs : goal.returns-in_err-make_tables-clause-theirs
returns-in_err-make_tables-clause-theirs g c clean names =
    let p = err_from_is_err_and c.from_residual.result c.from_residual.ensures.1 in
    rw (p.1, p.2) (inr (store_wants _ (c.in_err-make_tables.ensures.whole clean Both names.schema (λ is. absurd (cc)))))

pub returns-in-empty-clause-refused : goal.returns-in-empty-clause-refused
returns-in-empty-clause-refused g c clean =
    let old = state g.S.Store c.args.conn.now in
    let mid = state g.S.Store c.make_tables.new.conn in
    let read = state g.S.Store c.read_meta.new.conn in
    let clean2 : HasCleanDisk read = was_clean _ _ clean c.open_new.ensures.clean in
    let clean1 : HasCleanDisk mid = was_clean _ _ clean2 c.read_meta.ensures.clean in
    let prepared = c.in_ok-make_tables.ensures.prepared clean1 in
    let completes = c.in_ok-make_tables.ensures.completes clean1 in
    let ready = c.in_ok-found.ensures.ready clean2 prepared in
    so_refused c.open_new.result (c.open_new.ensures.refused clean ready.0) (λ same. inr (subst (Completes old.now) (sym (same ∙ ready.1)) completes))

pub returns-in-len1-clause-refused : goal.returns-in-len1-clause-refused
returns-in-len1-clause-refused g c clean =
    let old = state g.S.Store c.args.conn.now in
    let mid = state g.S.Store c.make_tables.new.conn in
    let read = state g.S.Store c.read_meta.new.conn in
    let clean2 : HasCleanDisk read = was_clean _ _ clean c.open_old.ensures.clean in
    let clean1 : HasCleanDisk mid = was_clean _ _ clean2 c.read_meta.ensures.clean in
    let prepared = c.in_ok-make_tables.ensures.prepared clean1 in
    let completes = c.in_ok-make_tables.ensures.completes clean1 in
    let ready = c.in_ok-found.ensures.ready clean2 prepared in
    so_refused c.open_old.result (c.open_old.ensures.refused clean ready.0) (λ same. inr (subst (Completes old.now) (sym (same ∙ ready.1)) completes))

pub returns-in-empty-clause-others : goal.returns-in-empty-clause-others
returns-in-empty-clause-others g c clean = reading_spares _ c.open_new.result c.open_new.ensures.fault

pub returns-in-empty-clause-fault : goal.returns-in-empty-clause-fault
returns-in-empty-clause-fault g c = reading_opens c.open_new.result c.open_new.ensures.fault

pub returns-in_err-make_tables-clause-refused : goal.returns-in_err-make_tables-clause-refused
returns-in_err-make_tables-clause-refused g c clean =
    let p = err_from_is_err_and c.from_residual.result c.from_residual.ensures.1 in
    rw (p.1, p.2) (λ other. inl (c.in_err-make_tables.ensures.refused clean other))

pub returns-in_err-make_tables-clause-whole : goal.returns-in_err-make_tables-clause-whole
returns-in_err-make_tables-clause-whole g c clean t opens =
    let p = err_from_is_err_and c.from_residual.result c.from_residual.ensures.1 in
    rw (p.1, p.2) (store_wants _ (c.in_err-make_tables.ensures.whole clean opens.made opens.schema opens.whole))

pub returns-in_err-make_tables-clause-others : goal.returns-in_err-make_tables-clause-others
returns-in_err-make_tables-clause-others g c clean =
    let p = err_from_is_err_and c.from_residual.result c.from_residual.ensures.1 in
    rw (p.1, p.2) (λ called. absurd (making_spares _ c.in_err-make_tables.ensures.fault called))

pub returns-in_err-make_tables-clause-fault : goal.returns-in_err-make_tables-clause-fault
returns-in_err-make_tables-clause-fault g c =
    let p = err_from_is_err_and c.from_residual.result c.from_residual.ensures.1 in
    rw (p.1, p.2) (making_opens _ c.in_err-make_tables.ensures.fault)

pub returns-in_err-found-clause-refused : goal.returns-in_err-found-clause-refused
returns-in_err-found-clause-refused g c clean =
    let p = err_from_is_err_and c.from_residual-in_err-found.result c.from_residual-in_err-found.ensures.1 in
    rw (p.1, p.2) (λ other. absurd (other refl))

pub returns-in_err-found-clause-whole : goal.returns-in_err-found-clause-whole
returns-in_err-found-clause-whole g c clean t opens =
    let p = err_from_is_err_and c.from_residual-in_err-found.result c.from_residual-in_err-found.ensures.1 in
    rw (p.1, p.2) tt

pub returns-in_err-found-clause-others : goal.returns-in_err-found-clause-others
returns-in_err-found-clause-others g c clean =
    let p = err_from_is_err_and c.from_residual-in_err-found.result c.from_residual-in_err-found.ensures.1 in
    rw (p.1, p.2) (λ called. absurd (cc))

pub returns-in_err-found-clause-theirs : goal.returns-in_err-found-clause-theirs
returns-in_err-found-clause-theirs g c clean names =
    let p = err_from_is_err_and c.from_residual-in_err-found.result c.from_residual-in_err-found.ensures.1 in
    rw (p.1, p.2) (inr tt)

pub returns-in_err-found-clause-fault : goal.returns-in_err-found-clause-fault
returns-in_err-found-clause-fault g c =
    let p = err_from_is_err_and c.from_residual-in_err-found.result c.from_residual-in_err-found.ensures.1 in
    rw (p.1, p.2) tt
