use Rattle.std.proofs.Common.{sym}
use Rattle.sb_views.proofs.LiveEntries.{lent_removed, lent_kept}
use Rattle.sb_views.proofs.owner_view.remove_row.Goals as goal

pub returns-in-Ok : goal.returns-in-Ok
returns-in-Ok c =
    let after = lent_removed c.args.rows.now.items c.deref.result.now c.args.key.now c.in-Ok.place c.deref.ensures.value c.requires c.in-Ok.ensures.bound c.in-Ok.ensures.place in
    rw c.remove.ensures.items (record { removed = after.0; live = after.1 })

pub returns-in-Err-clause-removed : goal.returns-in-Err-clause-removed
returns-in-Err-clause-removed c = lent_kept c.args.rows.now.items c.deref.result.now c.args.key.now c.in-Err.field-0 c.deref.ensures.value c.requires c.in-Err.ensures.place
