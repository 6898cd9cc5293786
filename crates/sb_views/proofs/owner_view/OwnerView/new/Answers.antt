use Rattle.std.proofs.Common.{sym, ap, subst}
use Rattle.sb_views.specs.NodeViews.{live_rows_of, AreLive}
use Rattle.sb_views.proofs.Owners.{no_rows}
use Rattle.sb_views.proofs.LiveEntries.{ascend, none_live}
use Rattle.sb_views.proofs.owner_view.OwnerView.new.Goals as goal

pub returns : goal.returns
returns c =
    let es = c.new.result.items in
    no_rows (live_rows_of es) (ap live_rows_of c.new.ensures.items) (ascend es (subst AreLive (sym c.new.ensures.items) none_live).rising)

pub invariant_of-result : goal.invariant_of-result
invariant_of-result c = subst AreLive (sym c.new.ensures.items) none_live
