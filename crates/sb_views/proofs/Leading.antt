-- Which batches lead from one node to the next.
use Rattle.std.proofs.Common.{◌≡◌, ℕ, ◌+◌, Bool, true, false, cond, List, [], ◌∷◌, Option, Some, unwrap_or, nat_eq, refl, sym, ap, subst, ◌∙◌, eq-eqb}
use Rattle.std.proofs.lemmas.Bool.{cond-true}
use Rattle.std.proofs.lemmas.Cmp.{nat_list_cmp_total}
use Rattle.std.specs.Cmp.Lexicographic.{pointwise}
use Rattle.std.specs.Ordering.{eq_by_cmp}
use Rattle.std.specs.FinMap.{get, get-insert}
use Rattle.sb_types.specs.Records.{Entry, Holder}
use Rattle.sb_types.proofs.Texts.{same_text}
use Rattle.sb_table.specs.Plain.{with_entry}
use Rattle.sb_holdings.specs.Held.{Held, empty_holder, holder_of, shown_of, held_after_write}
use Rattle.sb_holdings.specs.Shown.{holder_after_write}
use Rattle.sb_holdings.specs.Nodes.{Node}
use Rattle.sb_views.specs.declared.change.Change.{Change}
use Rattle.sb_views.specs.declared.change.Change.TheVariants.{Enter}
use Rattle.sb_views.specs.declared.event.Event.{Event}
use Rattle.sb_views.specs.declared.event.Event.TheVariants.{TookOwn}
use Rattle.sb_views.specs.Histories.{node_after}
use Rattle.sb_views.specs.Changes.{Leads, of_owner, table_with_all}
use Rattle.sb_views.proofs.ByText.{by_text}
use Rattle.sb_views.proofs.Changing.{same-alike}
use Rattle.sb_views.proofs.Showing.{tied}

module _ (held : Held) (e : Entry) where
  abbrev mine : Holder
  mine = holder_of held.owners held.me

  shown-cond : (b : Bool) (o : Option Holder) → (unwrap_or (cond b (Some (holder_after_write mine e)) o) empty_holder).shown ≡ cond b (holder_after_write mine e).shown (unwrap_or o empty_holder).shown
  shown-cond true o = refl
  shown-cond false o = refl

  -- a write of the node changes no other owner
  pub shown-written : (owner : List ℕ) → shown_of (held_after_write held e) owner ≡ cond (pointwise nat_eq held.me owner) (holder_after_write mine e).shown (shown_of held owner)
  shown-written owner =
      ap (λ (o : Option Holder). (unwrap_or o empty_holder).shown) (get-insert nat_list_cmp_total held.owners held.me (holder_after_write mine e) owner)
      ∙ shown-cond (eq_by_cmp by_text owner held.me) (get held.owners owner)
      ∙ ap (λ (b : Bool). cond b (holder_after_write mine e).shown (shown_of held owner)) (tied held.me owner)

  module _ (next : e.version ≡ (shown_of held held.me).held + 1) where
    shown-own : (holder_after_write mine e).shown ≡ with_entry mine.shown e
    shown-own = ap (λ (h : Holder). h.shown) (cond-true (nat_eq e.version (mine.shown.held + 1)) _ mine (eq-eqb e.version _ next))

    lead-case : (owner : List ℕ) (b : Bool) → pointwise nat_eq held.me owner ≡ b
        → cond b (holder_after_write mine e).shown (shown_of held owner) ≡ table_with_all (shown_of held owner) (of_owner owner ((held.me, Enter e) ∷ []))
    lead-case owner true is = rw is (shown-own ∙ ap (λ (o : List ℕ). with_entry (shown_of held o) e) (same_text held.me owner is))
    lead-case owner false is = rw is refl

    pub own-leads : Leads held (held_after_write held e) ((held.me, Enter e) ∷ [])
    own-leads owner =
        same-alike (table_with_all (shown_of held owner) (of_owner owner ((held.me, Enter e) ∷ []))) (shown_of (held_after_write held e) owner)
        (sym (shown-written owner ∙ lead-case owner (pointwise nat_eq held.me owner) refl))

-- the first own write of a node leads from the node as it was opened
pub first-leads : (opening : Node) (held : Held) (e : Entry) (queued upto : List Event) (batch : List (List ℕ × Change)) → opening.held ≡ held
    → e.version ≡ (shown_of held held.me).held + 1 → queued ≡ [] → upto ≡ TookOwn e ∷ [] → batch ≡ (held.me, Enter e) ∷ []
    → Leads (node_after opening queued).held (node_after opening upto).held batch
first-leads opening held e queued upto batch same next none one alone =
    let leads : Leads opening.held (held_after_write opening.held e) ((held.me, Enter e) ∷ []) =
    subst (λ (h : Held). Leads h (held_after_write h e) ((held.me, Enter e) ∷ [])) (sym same) (own-leads held e next) in
    subst (λ (b : List (List ℕ × Change)). Leads (node_after opening queued).held (node_after opening upto).held b) (sym alone)
    (subst (λ (l : List Event). Leads (node_after opening l).held (node_after opening upto).held ((held.me, Enter e) ∷ [])) (sym none)
    (subst (λ (l : List Event). Leads opening.held (node_after opening l).held ((held.me, Enter e) ∷ [])) (sym one) leads))
