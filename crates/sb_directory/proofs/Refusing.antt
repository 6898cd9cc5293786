-- Which fault a mark of the own name is answered.
use Rattle.std.proofs.Common.{◌≡◌, ◌≢◌, ℕ, ◌-◌, ◌^◌, Bool, true, false, List, Option, None, Result, Ok, Err, refl, sym, ap, ◌∙◌}
use Rattle.std.specs.Prelude.{◌==◌}
use Rattle.std.proofs.lemmas.Bool.Decides.{Decides-eqb}
use Rattle.sb_types.specs.declared.fault.Fault.{Fault}
use Rattle.sb_types.specs.declared.fault.Fault.TheVariants.{NoMemory, TurnsSpent}
use Rattle.sb_holdings.specs.Nodes.{Node}
use Rattle.sb_views.specs.declared.event.Event.{Event}
use Rattle.sb_views.specs.Histories.{node_after}
use Rattle.sb_directory.specs.Seats.{Refuses, delta_due_after}
use Rattle.sb_directory.specs.Audits.{own_held, is_last, unless_last, version_due, mark_due_unless, mark_due_after}

spent_if : (last : Bool) → last ≡ true → Refuses (unless_last last (Ok tt)) TurnsSpent
spent_if true is = (refl, λ other. refl)
spent_if false is = absurd (cc)

left_if : (last : Bool) → (last ≡ true → ⊥) → (unless_last last (Ok tt) ≡ Ok tt) × Refuses (unless_last last (Ok tt)) NoMemory
left_if true never = absurd (never refl)
left_if false never = (refl, (tt, λ other. absurd (other refl)))

left_of : (node : Node) → own_held node ≢ 2 ^ 64 - 1 → (version_due node ≡ Ok tt) × Refuses (version_due node) NoMemory
left_of node other = left_if (own_held node == 2 ^ 64 - 1) (λ is. other ((Decides-eqb (own_held node) (2 ^ 64 - 1)).0 is))

-- behind the greatest version there is no next one
pub version_spent : (node : Node) → own_held node ≡ 2 ^ 64 - 1 → Refuses (version_due node) TurnsSpent
version_spent node is = spent_if (own_held node == 2 ^ 64 - 1) ((Decides-eqb (own_held node) (2 ^ 64 - 1)).1 is)

-- behind any other version there is one
pub version_left : (node : Node) → own_held node ≢ 2 ^ 64 - 1 → version_due node ≡ Ok tt
version_left node other = (left_of node other).0

pub version_memory : (node : Node) → own_held node ≢ 2 ^ 64 - 1 → Refuses (version_due node) NoMemory
version_memory node other = (left_of node other).1

by_version : (last : Bool) (rest : Result (Unit {0}) Fault) (fault : Fault) → unless_last last (Ok tt) ≡ Err fault → unless_last last rest ≡ Err fault
by_version true rest fault is = is
by_version false rest fault is = absurd (cc)

by_delta : (last : Bool) (rest : Result (Unit {0}) Fault) (fault : Fault) → unless_last last (Ok tt) ≡ Ok tt → rest ≡ Err fault → unless_last last rest ≡ Err fault
by_delta true rest fault is due = absurd (cc)
by_delta false rest fault is due = due

module _ (opening : Node) (history : List Event) (core : Node) (same : core ≡ node_after opening history) (none : core.conflict ≡ None) where
  -- a name that is not in conflict is marked
  due_of : mark_due_after opening history ≡ unless_last (is_last core) (delta_due_after history)
  due_of =
      ap (λ (o : Option ℕ). mark_due_unless history (node_after opening history) o) (ap (λ (n : Node). n.conflict) (sym same) ∙ none)
      ∙ ap (λ (n : Node). unless_last (is_last n) (delta_due_after history)) (sym same)

  pub refused_mark : (fault : Fault) → Refuses (version_due core) fault → fault ≢ NoMemory → mark_due_after opening history ≡ Err fault
  refused_mark fault refuses other = due_of ∙ by_version (is_last core) (delta_due_after history) fault (refuses.1 other)

  pub refused_delta : (fault : Fault) → version_due core ≡ Ok tt → Refuses (delta_due_after history) fault → fault ≢ NoMemory → mark_due_after opening history ≡ Err fault
  refused_delta fault left refuses other = due_of ∙ by_delta (is_last core) (delta_due_after history) fault left (refuses.1 other)
