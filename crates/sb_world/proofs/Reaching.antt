-- What a world does is a run of the machine, which goes on from where it was.
use Rattle.std.proofs.Common.{◌≡◌, List, [], ◌∷◌, ◌++◌, Result, refl, sym, subst}
use Rattle.sb_types.specs.declared.fault.Fault.{Fault}
use Rattle.sb_world.specs.declared.event.Event.{Event}
use Rattle.sb_world.specs.declared.event.Answer.{Answer}
use Rattle.sb_world.specs.Places.{Seen}
use Rattle.sb_world.specs.Turns.{Effect}
use Rattle.sb_world.specs.Events.{place_for}
use Rattle.sb_world.specs.Steps.{Step, Passes}
use Rattle.sb_world.specs.States.{State, state_after, Moves, Run, last_of, IsReached, FitsWorld}

-- one event more
pub passes_more : (old mid new : Seen) (events : List Event) (answers : List (Result Answer Fault)) (event : Event) (answer : Result Answer Fault) (effect : Effect) →
    Passes old events answers mid → Step mid event answer effect new → Passes old (events ++ event ∷ []) (answers ++ answer ∷ []) new
passes_more old mid new [] [] event answer effect passes step = (effect, new, subst (λ (s : Seen). Step s event answer effect new) passes step, refl)
passes_more old mid new [] (r ∷ rs) event answer effect passes step = absurd passes
passes_more old mid new (e ∷ es) [] event answer effect passes step = absurd passes
passes_more old mid new (e ∷ es) (r ∷ rs) event answer effect passes step = (passes.0, passes.1, passes.2, passes_more passes.1 mid new es rs event answer effect passes.3 step)

-- one step more
run_more : (first : State) (events : List Event) (answers : List (Result Answer Fault)) (states : List State) (event : Event) (answer : Result Answer Fault) (new : State) →
    Run first events answers states → Moves (last_of first states) event answer new → Run first (events ++ event ∷ []) (answers ++ answer ∷ []) (states ++ new ∷ [])
run_more first [] [] [] event answer new run moves = (moves, tt)
run_more first [] [] (s ∷ ss) event answer new run moves = absurd run
run_more first [] (r ∷ rs) states event answer new run moves = absurd run
run_more first (e ∷ es) [] states event answer new run moves = absurd run
run_more first (e ∷ es) (r ∷ rs) [] event answer new run moves = absurd run
run_more first (e ∷ es) (r ∷ rs) (s ∷ ss) event answer new run moves = (run.0, run_more s es rs ss event answer new run.1 moves)

last_more : (first : State) (states : List State) (new : State) → last_of first (states ++ new ∷ []) ≡ new
last_more first [] new = refl
last_more first (s ∷ ss) new = last_more s ss new

reached_more : (old : State) (event : Event) (answer : Result Answer Fault) (new : State) → IsReached old → Moves old event answer new → IsReached new
reached_more old event answer new r moves = record {
  start = r.start;
  is_start = r.is_start;
  events = r.events ++ event ∷ [];
  answers = r.answers ++ answer ∷ [];
  states = r.states ++ new ∷ [];
  run = run_more r.start r.events r.answers r.states event answer new r.run (subst (λ (s : State). Moves s event answer new) (sym r.last) moves);
  last = last_more r.start r.states new;
}

pub reach_step : (world new : Seen) (event : Event) (answer : Result Answer Fault) (effect : Effect) → Step world event answer effect new → (old : State) → FitsWorld old world →
    (state : State) × Moves old event answer state × FitsWorld state new
reach_step world new event answer effect step old fits =
    let state = state_after old (place_for old.now event) event answer effect new in
    let moves : Moves old event answer state = (effect, subst (λ (w : Seen). Step w event answer effect new) (sym fits.now) step, refl) in
    (state, moves, record { reached = reached_more old event answer state fits.reached moves; now = refl })

pub reach_run : (world new : Seen) (events : List Event) (answers : List (Result Answer Fault)) → Passes world events answers new → (old : State) → FitsWorld old world →
    (states : List State) × Run old events answers states × FitsWorld (last_of old states) new
reach_run world new [] [] passes old fits = ([], tt, subst (FitsWorld old) (sym passes) fits)
reach_run world new [] (r ∷ rs) passes old fits = absurd passes
reach_run world new (e ∷ es) [] passes old fits = absurd passes
reach_run world new (e ∷ es) (r ∷ rs) passes old fits =
    let one = reach_step world passes.1 e r passes.0 passes.2 old fits in
    let rest = reach_run passes.1 new es rs passes.3 one.0 one.2 in
    (one.0 ∷ rest.0, (one.1, rest.1), rest.2)
