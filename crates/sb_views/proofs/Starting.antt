-- The first copy shows the node as it is opened.
use Rattle.std.proofs.Common.{◌≡◌, [], sym, subst, refl}
use Rattle.std.specs.FinMap.{empty}
use Rattle.logbook.specs.Pages.{Book}
use Rattle.sb_holdings.specs.Held.{Held, shown_of}
use Rattle.sb_holdings.specs.Nodes.{Node}
use Rattle.sb_holdings.specs.Plain.{IsHoldings}
use Rattle.sb_views.specs.Histories.{Position}
use Rattle.sb_views.specs.Changes.{all_changes}
use Rattle.sb_views.specs.NodeViews.{NodeView, ShowsTables, view_with_all}
use Rattle.sb_views.specs.Copies.{ViewCopy}
use Rattle.sb_views.specs.Publishing.{IsView, IsCopyOf}
use Rattle.sb_views.proofs.Beginning.{first-view}

abbrev copy_of : Position → NodeView → ViewCopy
copy_of position view = record { position = position; view = view }

pub is_copy-first : (history : Book) (opening : Node) (held : Held) (position : Position) (view : NodeView) → IsHoldings held → opening.held ≡ held
    → position ≡ record { book = history; events = [] } → view ≡ view_with_all empty (all_changes held) → IsCopyOf history opening (copy_of position view)
is_copy-first history opening held position view is same at first =
    let shows : IsView opening (view_with_all empty (all_changes held)) =
    subst (λ (h : Held). ShowsTables (shown_of h) (view_with_all empty (all_changes held))) (sym same) (first-view held is) in
    let viewed : IsView opening view = subst (IsView opening) (sym first) shows in
    subst (λ (m : Position). IsCopyOf history opening (copy_of m view)) (sym at) (record { book = refl; view = viewed })
