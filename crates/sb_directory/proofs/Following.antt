-- What views lack leads to the node as it stands.
use Rattle.std.proofs.Common.{◌≡◌, ℕ, List, sym, subst}
use Rattle.std.specs.FinMap.{empty}
use Rattle.sb_holdings.specs.Held.{Held}
use Rattle.sb_holdings.specs.Nodes.{Node}
use Rattle.sb_holdings.specs.Plain.{IsHoldings}
use Rattle.sb_views.specs.declared.change.Change.{Change}
use Rattle.sb_views.specs.declared.event.Event.{Event}
use Rattle.sb_views.specs.Changes.{Leads}
use Rattle.sb_views.specs.Growing.{AreGrown}
use Rattle.sb_views.specs.Histories.{node_after}
use Rattle.sb_views.proofs.Growing.{grown-none}
use Rattle.sb_directory.specs.Lacking.{LackingOwners, all_lacked, AreSince}
use Rattle.sb_directory.proofs.Lacking.{lacked-leads, nothing-since}

module _ (opening core : Node) (upto : List Event) (same : core ≡ node_after opening upto) where
  pub batch-leads : (queued : List Event) (lacking : LackingOwners) (batch : List (List ℕ × Change)) → IsHoldings core.held → AreGrown (node_after opening queued).held core.held
      → AreSince (node_after opening queued).held core.held lacking → batch ≡ all_lacked lacking core.held → Leads (node_after opening queued).held (node_after opening upto).held batch
  batch-leads queued lacking batch is grown since all =
      let old : Held = (node_after opening queued).held in
      let leads : Leads old core.held batch = subst (Leads old core.held) (sym all) (lacked-leads old core.held lacking is grown since) in
      subst (λ (n : Node). Leads old n.held batch) same leads

  pub grown-there : IsHoldings core.held → AreGrown (node_after opening upto).held core.held
  grown-there is = subst (λ (n : Node). AreGrown n.held core.held) same (grown-none core.held is)

  pub since-there : AreSince (node_after opening upto).held core.held empty
  since-there = subst (λ (n : Node). AreSince n.held core.held empty) same (nothing-since core.held)
