-- What a give does to its world, and what it prints.
use Rattle.std.specs.Prelude.{◌≡◌, ℕ, List, [], ◌∷◌, ◌++◌, Option, Some, None, Result, Ok, Err}
use Rattle.std.specs.Io.KnownBytes.{Appends, Keeps}
use Rattle.sb_types.specs.declared.fault.Fault.{Fault}
use Rattle.sb_world.specs.declared.event.Event.{Event}
use Rattle.sb_world.specs.declared.event.Event.TheVariants as events
use Rattle.sb_world.specs.declared.event.Answer.{Answer}
use Rattle.sb_world.specs.declared.event.Answer.TheVariants.{Sent}
use Rattle.sb_world.specs.Places.{Seen, frame_at}
use Rattle.sb_world.specs.Turns.{Effect}
use Rattle.sb_world.specs.Steps.{Step}
use Rattle.sb_script.specs.declared.playing.Given.{Given}
use Rattle.sb_script.specs.Printed.{lines_of, fault_line, shown_frame}

-- the frame of a give is printed, if one was sent
abbrev pub ShowsSent : List (List ℕ) → Option ℕ → Option (List ℕ) → Option (List ℕ) → Type 0
ShowsSent sent None before after = Keeps before after
ShowsSent sent (Some number) before after = Appends before after (shown_frame (frame_at sent number))

-- an event happens, with this answer
abbrev pub Happens : Seen → Event → Result Answer Fault → Seen → Type 0
Happens old event answer new = (effect : Effect) × Step old event answer effect new

-- after a fault nothing else happens, and the fault is the answer
abbrev pub GoesOn : Result Answer Fault → Seen → Result Answer Fault → Seen → Type 0 → Type 0
GoesOn (Err fault) old answer new rest = (new ≡ old) × (answer ≡ Err fault)
GoesOn (Ok _) old answer new rest = rest

-- events happen in turn, up to the first that has a fault; then a last one, whose answer it is
abbrev pub Happen : Seen → List Event → Event → Result Answer Fault → Seen → Type 0
Happen old [] last answer new = Happens old last answer new
Happen old (event ∷ events) last answer new =
    (first : Result Answer Fault) × (middle : Seen) × Happens old event first middle × GoesOn first middle answer new (Happen middle events last answer new)

-- the frame that an event sent, by its number, if it sent one
abbrev pub frame_in : Answer → Option ℕ
frame_in (Sent number) = Some number
frame_in answer = None

-- the same of a result
abbrev pub sent_by : Result Answer Fault → Result (Option ℕ) Fault
sent_by (Ok answer) = Ok (frame_in answer)
sent_by (Err fault) = Err fault

-- an event happens, which sent this
abbrev pub Sends : Seen → Event → Result (Option ℕ) Fault → Seen → Type 0
Sends old event sent new = (answer : Result Answer Fault) × Happens old event answer new × (sent ≡ sent_by answer)

-- the connections of a give, which no line of a script can name
abbrev pub giving_connection : ℕ
giving_connection = 1000000

abbrev pub taking_connection : ℕ
taking_connection = 1000001

-- the Hello and the delta, unless the delta has a fault
abbrev pub given_with : Option ℕ → Result (Option ℕ) Fault → Result Given Fault
given_with hello (Ok delta) = Ok (record { hello = hello; delta = delta })
given_with hello (Err fault) = Err fault

-- after a Hello with a fault nothing is offered
abbrev pub OffersNext : Result (Option ℕ) Fault → Seen → List ℕ → ℕ → Result Given Fault → Seen → Type 0
OffersNext (Err fault) old giver after given new = (new ≡ old) × (given ≡ Err fault)
OffersNext (Ok hello) old giver after given new =
    (delta : Result (Option ℕ) Fault) × Sends old (events.Offer giver giver after) delta new × (given ≡ given_with hello delta)

-- the giver connects, and offers what it wrote above a version
abbrev pub Offers : Seen → List ℕ → ℕ → Result Given Fault → Seen → Type 0
Offers old giver after given new =
    (hello : Result (Option ℕ) Fault) × (middle : Seen) × Sends old (events.Connect giver giving_connection) hello middle × OffersNext hello middle giver after given new

-- the event that lines up a frame towards the taker, if it was sent
abbrev pub line_events : Option ℕ → List Event
line_events None = []
line_events (Some number) = events.Line taking_connection number ∷ []

-- only the fault of an answer
abbrev pub done_of : Result Answer Fault → Result (Unit {0}) Fault
done_of (Ok answer) = Ok tt
done_of (Err fault) = Err fault

-- a frame is lined up, if it was sent
abbrev pub LinesUp : Seen → Option ℕ → Result (Unit {0}) Fault → Seen → Type 0
LinesUp old None result new = (new ≡ old) × (result ≡ Ok tt)
LinesUp old (Some number) result new = (answer : Result Answer Fault) × Happens old (events.Line taking_connection number) answer new × (result ≡ done_of answer)

-- all that is in the queue to the taker comes
abbrev pub all_comes : Event
all_comes = events.Piece taking_connection 18446744073709551615

-- the taker connects, the frames that were sent enter its queue, and all of them come at once
abbrev pub TakesUp : Seen → List ℕ → Given → Result Answer Fault → Seen → Type 0
TakesUp old taker given answer new = Happen old (events.Connect taker taking_connection ∷ line_events given.hello ++ line_events given.delta) all_comes answer new

-- both connections are closed, whatever the answers are
abbrev pub Closes : Seen → Seen → Type 0
Closes old new = (first second : Result Answer Fault) × (middle : Seen) × Happens old (events.Close giving_connection) first middle × Happens middle (events.Close taking_connection) second new

-- the delta's frame is printed, if one was sent, and then what came of it; a fault of the giver's part is printed alone
abbrev pub PlaysTaking : Result Given Fault → Seen → List ℕ → Option (List ℕ) → Option (List ℕ) → Seen → Type 0
PlaysTaking (Err fault) old taker before after new = Closes old new × Appends before after (fault_line fault)
PlaysTaking (Ok given) old taker before after new =
    (answer : Result Answer Fault) × (taken : Seen) × (between : Option (List ℕ))
    × ShowsSent old.sent given.delta before between × TakesUp old taker given answer taken × Closes taken new × Appends between after (lines_of all_comes answer)

-- the giver offers, and the taker takes up what it offers
abbrev pub PlaysGive : Seen → List ℕ → List ℕ → ℕ → Option (List ℕ) → Option (List ℕ) → Seen → Type 0
PlaysGive old giver taker above before after new =
    (given : Result Given Fault) × (middle : Seen) × Offers old giver above given middle × PlaysTaking given middle taker before after new
