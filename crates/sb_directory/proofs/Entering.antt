-- The last call of a seat, where it entered a delta.
use Rattle.std.proofs.Common.{◌≡◌, subst, List, [], ◌∷◌, ◌++◌, Result, Ok, Err, IfOk, OnOk}
use Rattle.sb_types.specs.declared.fault.Fault.{Fault}
use Rattle.sb_types.specs.Records.{Block}
use Rattle.sb_holdings.specs.Nodes.{Node}
use Rattle.sb_holdings.specs.Treats.{Treats}
use Rattle.sb_views.specs.declared.event.Event.{Event}
use Rattle.sb_views.specs.declared.event.Event.TheVariants as events
use Rattle.sb_views.specs.Histories.{node_after}
use Rattle.sb_directory.specs.declared.receipt.Applied.{Applied}
use Rattle.sb_directory.specs.Seats.{Seat, Begins, MakesEvent, delta_due_after}

pub delta-event : (opening : Node) (blocks : List Block) (history : List Event) (old new : Seat) (result : Result Applied Fault) → Begins history old
    → OnOk result (delta_due_after history ≡ Ok tt) → IfOk result (λ applied. new.last_call ≡ history ++ events.Applied blocks applied.ends ∷ [])
    → IfOk result (λ applied. Treats (node_after opening history) blocks applied.ends)
    → IfOk result (λ applied. (made : MakesEvent delta_due_after (events.Applied blocks applied.ends) old new) × Treats (node_after opening made.history) blocks applied.ends)
delta-event opening blocks history old new (Ok applied) begins due last_call treats = (record { history = history; begins = begins; may = due; last_call = last_call }, treats)
delta-event opening blocks history old new (Err fault) begins due last_call treats = tt

-- the same, where the blocks are those of a delta that was received
pub received-event : (opening : Node) (blocks given : List Block) (history : List Event) (old new : Seat) (result : Result Applied Fault) → given ≡ blocks
    → Begins history old → OnOk result (delta_due_after history ≡ Ok tt)
    → IfOk result (λ applied. new.last_call ≡ history ++ events.Applied given applied.ends ∷ [])
    → IfOk result (λ applied. Treats (node_after opening history) given applied.ends)
    → IfOk result (λ applied. (made : MakesEvent delta_due_after (events.Applied blocks applied.ends) old new) × Treats (node_after opening made.history) blocks applied.ends)
received-event opening blocks given history old new result same begins due last_call treats =
    subst (λ (all : List Block). IfOk result (λ applied. (made : MakesEvent delta_due_after (events.Applied all applied.ends) old new)
    × Treats (node_after opening made.history) all applied.ends)) same (delta-event opening given history old new result begins due last_call treats)
