use Rattle.std.proofs.Common.{List, ℕ, not, sym, ap, ◌∙◌}
use Rattle.std.specs.BTreeMap.Range.{is_from_start}
use Rattle.std.specs.Ordering.{is_lt, is_le}
use Rattle.std.specs.declared.ops.Bound.{Bound}
use Rattle.sb_views.proofs.ByText.{by_text}
use Rattle.sb_views.proofs.LiveEntries.{before_first, up_to_last}
use Rattle.sb_views.proofs.entries_from.is_before.Goals as goal

pub returns-in-Included : goal.returns-in-Included
returns-in-Included c =
    c.is_lt.ensures ∙ ap is_lt c.cmp.ensures ∙ before_first c.in-Included.first c.args.key.now
    ∙ sym (ap (λ (start : Bound (List ℕ)). not (is_from_start by_text start c.args.key.now)) c.in-Included.is)

pub returns-in-Excluded : goal.returns-in-Excluded
returns-in-Excluded c =
    c.is_le.ensures ∙ ap is_le c.cmp-in-Excluded.ensures ∙ up_to_last c.in-Excluded.last c.args.key.now
    ∙ sym (ap (λ (start : Bound (List ℕ)). not (is_from_start by_text start c.args.key.now)) c.in-Excluded.is)
