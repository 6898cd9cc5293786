use Rattle.std.proofs.Common.{sym, ap, ◌∙◌}
use Rattle.std.specs.FinMap.{entries, entries-from_sorted}
use Rattle.sb_budget.proofs.PlaceLemmas.{text_cmp}
use Rattle.sb_budget.proofs.BacklogLemmas.{sorted}
use Rattle.sb_budget.proofs.backlog.Backlog.owners.Goals as goal

pub returns : goal.returns
returns c =
    let es = c.self.inside.owners.entries in
    c.iter.ensures.rest ∙ sym (entries-from_sorted text_cmp es (sorted es c.self.invariant)) ∙ ap entries c.self.view_is
