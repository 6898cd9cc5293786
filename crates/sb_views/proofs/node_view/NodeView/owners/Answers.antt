use Rattle.std.proofs.Common.{sym, ap, ◌∙◌}
use Rattle.std.specs.FinMap.{entries, entries-from_sorted}
use Rattle.sb_views.specs.NodeViews.{shown_owners}
use Rattle.sb_views.proofs.ByText.{by_text, sorted}
use Rattle.sb_views.proofs.node_view.NodeView.owners.Goals as goal

pub returns : goal.returns
returns c =
    let es = c.self.inside.owners.entries in
    c.new.ensures ∙ ap shown_owners (c.iter.ensures.rest ∙ sym (entries-from_sorted by_text es (sorted es c.self.invariant)) ∙ ap entries c.self.view_is)
