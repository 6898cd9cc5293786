-- One step of a world, and a run of them.
use Rattle.std.specs.Prelude.{◌≡◌, ℕ, List, [], ◌∷◌, ◌++◌, Option, Some, None, Result, Ok}
use Rattle.sb_types.specs.declared.fault.Fault.{Fault}
use Rattle.sb_world.specs.declared.event.Event.{Event}
use Rattle.sb_world.specs.declared.event.Answer.{Answer}
use Rattle.sb_world.specs.declared.event.Answer.TheVariants as answers
use Rattle.sb_world.specs.Connections.{Connection}
use Rattle.sb_world.specs.Places.{Place, Seen, with_place}
use Rattle.sb_world.specs.Turns.{Effect, rests}
use Rattle.sb_world.specs.Events.{place_for, Does}

-- one node changed, these connections are left, and frames were sent
abbrev pub seen_after : Seen → List ℕ → Place → List Connection → List (List ℕ) → Seen
seen_after old me p conns frames = record { settings = old.settings; places = with_place old.places me p; connections = conns; sent = old.sent ++ frames }

-- an event at a node that does not exist changes nothing
abbrev pub StepAt : Option Place → Seen → Event → Result Answer Fault → Effect → Seen → Type 0
StepAt None old event answer effect new = (answer ≡ Ok answers.Nothing) × (effect ≡ rests) × (new ≡ old)
StepAt (Some p) old event answer effect new =
    (q : Place) × (conns : List Connection) × (frames : List (List ℕ))
    × Does event p old.connections old.sent (record { answer = answer; effect = effect; place = q; frames = frames }) conns × (new ≡ seen_after old p.me q conns frames)

abbrev pub Step : Seen → Event → Result Answer Fault → Effect → Seen → Type 0
Step old event answer effect new = StepAt (place_for old event) old event answer effect new

-- each event in turn, with its answer
abbrev pub Passes : Seen → List Event → List (Result Answer Fault) → Seen → Type 0
Passes old [] [] new = new ≡ old
Passes old [] (answer ∷ answers) new = ⊥
Passes old (event ∷ events) [] new = ⊥
Passes old (event ∷ events) (answer ∷ answers) new = (effect : Effect) × (mid : Seen) × Step old event answer effect mid × Passes mid events answers new
