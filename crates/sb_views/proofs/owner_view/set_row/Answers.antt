use Rattle.std.proofs.Common.{ap, ◌∙◌}
use Rattle.sb_types.specs.Records.{Entry}
use Rattle.sb_views.proofs.LiveEntries.{lent_replaced, lent_added, with_memory, live_after}
use Rattle.sb_views.proofs.owner_view.set_row.Goals as goal

pub returns-in-Ok-clause-ok : goal.returns-in-Ok-clause-ok
returns-in-Ok-clause-ok c =
    (lent_replaced c.args.rows.now.items c.deref.result.now c.key.result.now c.in-Ok.place c.deref.ensures.value c.args.entry (c.key.ensures.key ∙ ap (λ (e : Entry). e.key) c.entry.ensures.entry)
    c.requires.live c.requires.set c.in-Ok.ensures.bound c.in-Ok.ensures.place).0

pub returns-in-Ok-clause-live : goal.returns-in-Ok-clause-live
returns-in-Ok-clause-live c =
    (lent_replaced c.args.rows.now.items c.deref.result.now c.key.result.now c.in-Ok.place c.deref.ensures.value c.args.entry (c.key.ensures.key ∙ ap (λ (e : Entry). e.key) c.entry.ensures.entry)
    c.requires.live c.requires.set c.in-Ok.ensures.bound c.in-Ok.ensures.place).1

pub returns-in-Err-clause-ok : goal.returns-in-Err-clause-ok
returns-in-Err-clause-ok c =
    let after = lent_added c.args.rows.now.items c.deref.result.now c.key.result.now c.in-Err.place c.deref.ensures.value c.args.entry (c.key.ensures.key ∙ ap (λ (e : Entry). e.key) c.entry.ensures.entry)
    c.requires.live c.requires.set c.in-Err.ensures.bound c.in-Err.ensures.place in
    with_memory c.insert_row.result c.insert_row.new.rows.items _ _ c.insert_row.ensures.ok after.0

pub returns-in-Err-clause-live : goal.returns-in-Err-clause-live
returns-in-Err-clause-live c =
    let after = lent_added c.args.rows.now.items c.deref.result.now c.key.result.now c.in-Err.place c.deref.ensures.value c.args.entry (c.key.ensures.key ∙ ap (λ (e : Entry). e.key) c.entry.ensures.entry)
    c.requires.live c.requires.set c.in-Err.ensures.bound c.in-Err.ensures.place in
    live_after c.insert_row.result c.args.rows.now.items c.insert_row.new.rows.items _ c.insert_row.ensures.ok c.insert_row.ensures.err c.requires.live after.1
