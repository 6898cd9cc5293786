-- What a purge of the own table is answered.
use Rattle.std.proofs.Common.{◌≡◌, ℕ, Bool, true, false, cond, List, Option, Some, None, Result, Ok, Err, refl, sym, ap, subst, ◌∙◌}
use Rattle.sb_types.specs.declared.fault.Fault.{Fault}
use Rattle.sb_types.specs.declared.fault.Fault.TheVariants.{TurnsSpent}
use Rattle.sb_holdings.specs.Nodes.{Node}
use Rattle.sb_views.specs.declared.event.Event.{Event}
use Rattle.sb_views.specs.Histories.{node_after}
use Rattle.sb_directory.specs.ViewedNodes.{are_spent}
use Rattle.sb_directory.specs.Seats.{Refuses, delta_due_after}
use Rattle.sb_directory.specs.Purging.{own_due_floor, floor_unless_spent, purge_due_after}

abbrev unit_unless : Bool → Result (Unit {0}) Fault
unit_unless spent = cond spent (Err TurnsSpent) (Ok tt)

abbrev floor_unless : Bool → ℕ → Result (Option ℕ) Fault
floor_unless spent floor = cond spent (Err TurnsSpent) (Ok (Some floor))

refused-by : (spent : Bool) (floor : ℕ) (fault : Fault) → Refuses (unit_unless spent) fault → Refuses (floor_unless spent floor) fault
refused-by true floor fault r = (r.0, λ other. ap (λ (f : Fault). let e : Result (Option ℕ) Fault = Err f in e) (sym r.0))
refused-by false floor fault r = (tt, λ other. let same : ◌≡◌ {A = Result (Unit {0}) Fault} (Ok tt) (Err fault) = r.1 other in absurd (cc))

taken-by : (spent : Bool) (floor : ℕ) → unit_unless spent ≡ Ok tt → floor_unless spent floor ≡ Ok (Some floor)
taken-by true floor due = absurd (cc)
taken-by false floor due = refl

module _ (opening : Node) (least : ℕ) (history : List Event) (floor : ℕ) (due : own_due_floor least (node_after opening history) ≡ Some floor) where
  pub purge_refused : (fault : Fault) → Refuses (delta_due_after history) fault → Refuses (purge_due_after opening least history) fault
  purge_refused fault r = subst (λ (o : Option ℕ). Refuses (floor_unless_spent history o) fault) (sym due) (refused-by (are_spent history) floor fault r)

  pub purge_taken : delta_due_after history ≡ Ok tt → purge_due_after opening least history ≡ Ok (Some floor)
  purge_taken taken = ap (floor_unless_spent history) due ∙ taken-by (are_spent history) floor taken

-- nothing is due
pub purge_none : (opening : Node) (least : ℕ) (history : List Event) → own_due_floor least (node_after opening history) ≡ None → purge_due_after opening least history ≡ Ok None
purge_none opening least history none = ap (floor_unless_spent history) none
