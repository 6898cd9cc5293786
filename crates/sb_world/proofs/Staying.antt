-- A store that can't break its promise stays so over each step of a world.
use Rattle.std.proofs.Common.{List, [], ◌∷◌, Result, refl, sym, subst}
use Rattle.sb_types.specs.declared.fault.Fault.{Fault}
use Rattle.sb_world.specs.declared.event.Event.{Event}
use Rattle.sb_world.specs.declared.event.Answer.{Answer}
use Rattle.sb_world.specs.Places.{Seen, AreSure}
use Rattle.sb_world.specs.Turns.{Effect}
use Rattle.sb_world.specs.Events.{place_for}
use Rattle.sb_world.specs.Steps.{Step, Passes}
use Rattle.sb_world.specs.States.{start_of}
use Rattle.sb_world.proofs.Stepping.{sure_step}

pub sure_over : (world new : Seen) (event : Event) (answer : Result Answer Fault) (effect : Effect) → Step world event answer effect new → AreSure world.places → AreSure new.places
sure_over world new event answer effect step sure = sure_step event answer effect (start_of (λ name. []) world) (place_for world event) refl new step sure

pub sure_through : (world new : Seen) (events : List Event) (answers : List (Result Answer Fault)) → Passes world events answers new → AreSure world.places → AreSure new.places
sure_through world new [] [] passes sure = subst (λ (s : Seen). AreSure s.places) (sym passes) sure
sure_through world new [] (r ∷ rs) passes sure = absurd passes
sure_through world new (e ∷ es) [] passes sure = absurd passes
sure_through world new (e ∷ es) (r ∷ rs) passes sure = sure_through passes.1 new es rs passes.3 (sure_over world passes.1 e r passes.0 passes.2 sure)
