-- What is appended leads to the view of what is ready.
use Rattle.std.proofs.Common.{◌≡◌, ℕ, true, List, [], ◌∷◌, ◌++◌, Result, Ok, Err, OnOk, OnErr, fold, refl, sym, ap, subst, ◌∙◌}
use mathlib.Core.List.{IsPrefix}
use Rattle.logbook.specs.Pages.{Book}
use Rattle.sb_types.specs.declared.fault.Fault.{Fault}
use Rattle.sb_holdings.specs.Held.{shown_of}
use Rattle.sb_holdings.specs.Nodes.{Node}
use Rattle.sb_views.specs.declared.change.Change.{Change}
use Rattle.sb_views.specs.declared.event.Event.{Event}
use Rattle.sb_views.specs.declared.view_copy.Operation.{Operation}
use Rattle.sb_views.specs.declared.view_copy.Operation.TheVariants.{Make, Reach}
use Rattle.sb_views.specs.Histories.{Position, node_after}
use Rattle.sb_views.specs.Changes.{of_owner, table_with_all, Leads}
use Rattle.sb_views.specs.NodeViews.{view_with_all}
use Rattle.sb_views.specs.Copies.{ViewCopy}
use Rattle.sb_views.specs.Operations.{after_operation, changes_of, are_changes}
use Rattle.sb_views.specs.Publishing.{IsView, IsQueued}
use Rattle.sb_views.proofs.Prefixes.{prefix_trans}
use Rattle.sb_views.proofs.Showing.{alike_tables, view-with-all}

-- ---- a batch as steps

pub changes-push : (operations : List Operation) (owner : List ℕ) (c : Change) → changes_of (operations ++ Make owner c ∷ []) ≡ changes_of operations ++ (owner, c) ∷ []
changes-push [] owner c = refl
changes-push (Make o x ∷ operations) owner c = ap (λ (ps : List (List ℕ × Change)). (o, x) ∷ ps) (changes-push operations owner c)
changes-push (Reach position ∷ operations) owner c = changes-push operations owner c

pub alone-push : (operations : List Operation) (owner : List ℕ) (c : Change) → are_changes operations ≡ true → are_changes (operations ++ Make owner c ∷ []) ≡ true
alone-push [] owner c is = refl
alone-push (Make o x ∷ operations) owner c is = alone-push operations owner c is
alone-push (Reach position ∷ operations) owner c is = absurd (cc)

module _ (old new : List Operation) (owner : List ℕ) (c : Change) where
  pub pushed-alone : (r : Result (Unit {0}) Fault) → OnOk r (new ≡ old ++ Make owner c ∷ []) → OnErr r (new ≡ old) → are_changes old ≡ true → are_changes new ≡ true
  pushed-alone (Ok u) ok err is = ap are_changes ok ∙ alone-push old owner c is
  pushed-alone (Err fault) ok err is = ap are_changes err ∙ is

  pub pushed-ok : (r : Result (Unit {0}) Fault) (batch : List (List ℕ × Change)) → changes_of old ≡ batch → OnOk r (new ≡ old ++ Make owner c ∷ [])
      → OnOk r (changes_of new ≡ batch ++ (owner, c) ∷ [])
  pushed-ok (Ok u) batch view ok = ap changes_of ok ∙ changes-push old owner c ∙ ap (λ (b : List (List ℕ × Change)). b ++ (owner, c) ∷ []) view
  pushed-ok (Err fault) batch view ok = tt

  pub pushed-err : (r : Result (Unit {0}) Fault) (batch : List (List ℕ × Change)) → changes_of old ≡ batch → OnErr r (new ≡ old) → OnErr r (changes_of new ≡ batch)
  pushed-err (Ok u) batch view err = tt
  pushed-err (Err fault) batch view err = ap changes_of err ∙ view

fold-append : (copy : ViewCopy) (xs ys : List Operation) → fold after_operation copy (xs ++ ys) ≡ fold after_operation (fold after_operation copy xs) ys
fold-append copy [] ys = refl
fold-append copy (x ∷ xs) ys = fold-append (after_operation copy x) xs ys

fold-changes : (copy : ViewCopy) (operations : List Operation) → are_changes operations ≡ true → fold after_operation copy operations ≡ record { position = copy.position; view = view_with_all copy.view (changes_of operations) }
fold-changes copy [] is = refl
fold-changes copy (Make owner c ∷ operations) is = fold-changes (after_operation copy (Make owner c)) operations is
fold-changes copy (Reach position ∷ operations) is = absurd (cc)

fold-batch : (copy : ViewCopy) (pending operations : List Operation) (position : Position) → are_changes operations ≡ true
    → fold after_operation copy (pending ++ (operations ++ Reach position ∷ [])) ≡ record { position = position; view = view_with_all (fold after_operation copy pending).view (changes_of operations) }
fold-batch copy pending operations position is =
    fold-append copy pending (operations ++ Reach position ∷ []) ∙ fold-append (fold after_operation copy pending) operations (Reach position ∷ [])
    ∙ ap (λ (c : ViewCopy). after_operation c (Reach position)) (fold-changes (fold after_operation copy pending) operations is)

-- ---- what is ready, with a batch that leads on

module _ (history : Book) (opening : Node) (queued upto : List Event) (shown : ViewCopy) (pending operations : List Operation)
    (is : IsQueued history opening queued shown (fold after_operation shown pending)) (alone : are_changes operations ≡ true)
    (begins : IsPrefix queued upto) (leads : Leads (node_after opening queued).held (node_after opening upto).held (changes_of operations)) where
  abbrev position : Position
  position = record { book = history; events = upto }

  view : IsView (node_after opening upto) (view_with_all (fold after_operation shown pending).view (changes_of operations))
  view =
      let before : IsView (node_after opening queued) (fold after_operation shown pending).view =
      subst (λ (l : List Event). IsView (node_after opening l) (fold after_operation shown pending).view) is.reaches is.is_copy.view in
      alike_tables (λ o. table_with_all (shown_of (node_after opening queued).held o) (of_owner o (changes_of operations))) (shown_of (node_after opening upto).held)
      (view_with_all (fold after_operation shown pending).view (changes_of operations)) leads
      (view-with-all (shown_of (node_after opening queued).held) (fold after_operation shown pending).view (changes_of operations) before)

  next : IsQueued history opening upto shown (record { position = position; view = view_with_all (fold after_operation shown pending).view (changes_of operations) })
  next = record { is_copy = record { book = refl; view = view }; reaches = refl; begins = prefix_trans shown.position.events queued upto is.begins begins }

  pub appended : (new : List Operation) → new ≡ pending ++ (operations ++ Reach position ∷ []) → IsQueued history opening upto shown (fold after_operation shown new)
  appended new e =
      subst (IsQueued history opening upto shown) (sym (ap (fold after_operation shown) e ∙ fold-batch shown pending operations position alone)) next
