-- Each step of the views keeps their rule.
use Rattle.std.specs.declared.alloc.AllocError.{AllocError}
use Rattle.std.proofs.Common.{MatchResult, Result, Ok, Err, ◌≡◌, ◌≢◌, ℕ, ◌≤◌, List, [], ◌++◌, length, fold, slice_set, refl, sym, ◌∙◌, ap, subst, ⊎_elim, le_refl, le_trans, arith}
use Rattle.std.proofs.lemmas.List.{append-nil}
use mathlib.Core.Option.{some}
use lib.ListN.{get_elem?}
use Rattle.logbook.specs.Pages.{Book}
use Rattle.left_right.specs.Register.{Admits, TurnsAt}
use Rattle.atomic_table.proofs.Lists.{at_set, at_snoc}
use Rattle.sb_holdings.specs.Nodes.{Node}
use Rattle.sb_views.specs.declared.event.Event.{Event}
use Rattle.sb_views.specs.declared.view_copy.Operation.{Operation}
use Rattle.sb_views.specs.Copies.{ViewCopy}
use Rattle.sb_views.specs.Publishing.{IsCopyOf, AllBelow, IsPublished, IsQueued}
use Rattle.sb_views.specs.Operations.{after_operation}
use Rattle.sb_views.proofs.Prefixes.{prefix_length}

set_below : (n m : ℕ) (seen : List ℕ) (reader w : ℕ) → AllBelow n seen → n ≤ m → w ≤ m → AllBelow m (slice_set seen reader w)
set_below n m seen reader w below up low j u at =
    ⊎_elim (λ (t : (j ≡ reader) × (w ≡ u)). subst (λ (z : ℕ). z ≤ m) t.1 low) (λ (t : (j ≢ reader) × (get_elem? seen j ≡ some u)). le_trans (below j u t.1) up)
    (at_set seen reader j w u at)

module _ (history : Book) (opening : Node) where
  -- a reader may come at any time
  pub admits : Admits (IsPublished history opening) 0
  admits x seen is =
      record {
        is_copy = is.is_copy;
        longest = λ reader v at. ⊎_elim (is.longest reader v) (λ (e : 0 ≡ v). subst (λ (z : ℕ). z ≤ length x.position.events) e (omega arith)) (at_snoc seen 0 v reader at);
      }

  turns : (reader : ℕ) (x y : ViewCopy) → IsCopyOf history opening y → length x.position.events ≤ length y.position.events
      → (seen : List ℕ) → IsPublished history opening x seen → IsPublished history opening y (slice_set seen reader (length y.position.events))
  turns reader x y is_copy up seen is =
      record { is_copy = is_copy; longest = set_below (length x.position.events) (length y.position.events) seen reader (length y.position.events) is.longest up (le_refl _) }

  pub enters : (reader v : ℕ) (x : ViewCopy) → TurnsAt (IsPublished history opening) reader v x x (λ v x y w. (v ≤ length x.position.events) × (w ≡ length x.position.events) × IsCopyOf history opening x)
  enters reader v x seen is at = (length x.position.events, turns reader x x is.is_copy (le_refl _) seen is, (is.longest reader v at, refl, is.is_copy))

  module _ (queued : List Event) where
    pub publishes : (writer v : ℕ) (shown next : ViewCopy) → IsQueued history opening queued shown next → TurnsAt (IsPublished history opening) writer v shown next (λ v x y w. Unit {0})
    publishes writer v shown next is seen was at =
        let up : length shown.position.events ≤ length next.position.events =
        subst (λ (l : List Event). length shown.position.events ≤ length l) (sym is.reaches) (prefix_length shown.position.events queued is.begins) in
        (length next.position.events, turns writer shown next is.is_copy up seen was, tt)

    -- with nothing left in the queue, what is pending are the steps of the log
    all_handed : (now : ViewCopy) (old log queue : List Operation) → log ++ queue ≡ old → queue ≡ [] → fold after_operation now old ≡ fold after_operation now log
    all_handed now old log queue e none = ap (fold after_operation now) (sym e ∙ (ap (λ q. log ++ q) none ∙ append-nil log))

    pub handed : (was now : ViewCopy) (old log queue : List Operation) → now ≡ was → log ++ queue ≡ old → queue ≡ []
        → IsQueued history opening queued was (fold after_operation was old) → IsQueued history opening queued now (fold after_operation now log)
    handed was now old log queue same e none is =
        let at_now : IsQueued history opening queued now (fold after_operation now old) = subst (λ (s : ViewCopy). IsQueued history opening queued s (fold after_operation s old)) (sym same) is in
        subst (IsQueued history opening queued now) (all_handed now old log queue e none) at_now

    is_published : (shown next : ViewCopy) → IsQueued history opening queued shown next → IsQueued history opening queued next next
    is_published shown next is = record { is_copy = is.is_copy; reaches = is.reaches; begins = ([], append-nil _ ∙ is.reaches) }

    pub after_publish : (shown new : ViewCopy) (log left queue : List Operation) (r : Result (Unit {0}) AllocError)
        → IsQueued history opening queued shown (fold after_operation shown log) → queue ≡ []
        → MatchResult r (λ _. (new ≡ fold after_operation shown log) × (left ≡ [])) (λ _. (new ≡ shown) × (left ≡ log))
        → IsQueued history opening queued new (fold after_operation new (left ++ queue))
    after_publish shown new log left queue (Ok u) is none e =
        let next : IsQueued history opening queued new new = subst (λ (s : ViewCopy). IsQueued history opening queued s s) (sym e.0) (is_published shown (fold after_operation shown log) is) in
        rw (e.1, none) next
    after_publish shown new log left queue (Err fault) is none e = rw (e.0, e.1, none, append-nil log) is

    -- the prefix that is published is that of what is shown
    pub now_published : (published after : List Event) (shown new next : ViewCopy) (log left : List Operation) (r : Result (Unit {0}) AllocError)
        → shown.position.events ≡ published → IsQueued history opening queued shown next
        → MatchResult r (λ _. (new ≡ next) × (left ≡ [])) (λ _. (new ≡ shown) × (left ≡ log)) → MatchResult r (λ _. after ≡ queued) (λ _. after ≡ published)
        → new.position.events ≡ after
    now_published published after shown new next log left (Ok u) same is e then = ap (λ (c : ViewCopy). c.position.events) e.0 ∙ is.reaches ∙ sym then
    now_published published after shown new next log left (Err fault) same is e then = ap (λ (c : ViewCopy). c.position.events) e.0 ∙ same ∙ sym then
