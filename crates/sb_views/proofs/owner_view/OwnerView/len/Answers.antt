use Rattle.std.proofs.Common.{◌≡◌, length, sym, ap, ◌∙◌, arith}
use Rattle.std.specs.FinMap.{entries, entries-from_sorted}
use Rattle.sb_views.specs.NodeViews.{OwnerView, live_rows_of}
use Rattle.sb_views.proofs.ByText.{by_text, sorted}
use Rattle.sb_views.proofs.LiveEntries.{ascend, length-rows}
use Rattle.sb_views.proofs.owner_view.OwnerView.len.Goals as goal

pub returns : goal.returns
returns c =
    let es = c.self.inside.rows.items in
    let rows = live_rows_of es in
    let counted : c.len.result ≡ length es = omega (arith, c.len.ensures, c.self.inside.rows.ok.0) in
    counted ∙ sym (length-rows es) ∙ ap length (sym (entries-from_sorted by_text rows (sorted rows (ascend es c.self.invariant.rising)))) ∙ ap (λ (s : OwnerView). length (entries s.rows)) c.self.view_is
