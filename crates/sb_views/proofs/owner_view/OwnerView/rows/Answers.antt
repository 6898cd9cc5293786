use Rattle.std.proofs.Common.{ℕ, List, map, filter, nat_eq, ap, sym, ◌∙◌}
use Rattle.std.specs.List.{starts_with}
use Rattle.std.specs.BTreeMap.Range.{is_from_start}
use Rattle.std.specs.FinMap.{entries-from_sorted}
use Rattle.sb_types.specs.Value.{Value}
use Rattle.sb_views.specs.NodeViews.{live_rows_of}
use Rattle.sb_views.specs.LiveRows.{row_at, rows_under, live_rows_under}
use Rattle.sb_views.proofs.ByText.{by_text, sorted}
use Rattle.sb_views.proofs.LiveEntries.{ascend, lent_rows, lent_set, lent_rising}
use Rattle.sb_views.proofs.Reaching.{reached-filter}
use Rattle.sb_views.proofs.owner_view.OwnerView.rows.Goals as goal

pub from_start-requires : goal.from_start-requires
from_start-requires c = lent_rising c.self.inside.rows.items c.deref.result.now c.deref.ensures.value c.self.invariant

pub new-requires : goal.new-requires
new-requires c = lent_set c.self.inside.rows.items c.deref.result.now c.from_start.result.now c.start.result c.deref.ensures.value c.from_start.ensures c.self.invariant

pub returns : goal.returns
returns c =
    let owner = c.args.owner.now in
    let prefix = c.args.prefix in
    let es = c.self.inside.rows.items in
    let rows = live_rows_of es in
    let up = ascend es c.self.invariant.rising in
    c.new.ensures
    ∙ ap (live_rows_under owner prefix) (lent_rows es c.deref.result.now c.from_start.result.now c.start.result c.deref.ensures.value c.from_start.ensures)
    ∙ reached-filter owner prefix (is_from_start by_text c.start.result) c.start.ensures rows up
    ∙ ap (λ (ps : List (List ℕ × (Value × ℕ))). map (row_at owner) (filter (λ p. starts_with nat_eq p.0 prefix) ps)) (sym (entries-from_sorted by_text rows (sorted rows up)))
    ∙ ap (rows_under prefix owner) c.self.view_is
