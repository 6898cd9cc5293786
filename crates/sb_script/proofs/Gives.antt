-- What a give does, put together from what its parts do.
use Rattle.std.proofs.Common.{ℕ, List, [], ◌∷◌, ◌++◌, Option, Some, None, Result, Ok, Err, OnOk, refl, subst}
use Rattle.std.specs.Io.KnownBytes.{Appends}
use Rattle.sb_types.specs.declared.fault.Fault.{Fault}
use Rattle.sb_world.specs.declared.event.Event.{Event}
use Rattle.sb_world.specs.declared.event.Event.TheVariants as events
use Rattle.sb_world.specs.declared.event.Answer.{Answer}
use Rattle.sb_world.specs.Places.{Seen}
use Rattle.sb_script.specs.declared.playing.Given.{Given}
use Rattle.sb_script.specs.Giving.{Sends, Happen, LinesUp, line_events, giving_connection, given_with, all_comes, Offers, ShowsSent, TakesUp, Closes, PlaysGive}
use Rattle.sb_script.specs.Printed.{lines_of}

-- ---- events in turn

-- the first has a fault, and nothing else happens
pub first_fails : (old new : Seen) (first last : Event) (events : List Event) (fault : Fault)
    → Sends old first (Err fault) new → Happen old (first ∷ events) last (Err fault) new
first_fails old new first last events fault (Ok it, happens, is) = absurd cc
first_fails old new first last events fault (Err it, happens, is) = (Err it, new, happens, (refl, cc))

-- the first has none, and the others happen
pub first_sends : (old mid new : Seen) (first last : Event) (events : List Event) (frame : Option ℕ) (answer : Result Answer Fault)
    → Sends old first (Ok frame) mid → Happen mid events last answer new → Happen old (first ∷ events) last answer new
first_sends old mid new first last events frame answer (Ok it, happens, is) rest = (Ok it, mid, happens, rest)
first_sends old mid new first last events frame answer (Err it, happens, is) rest = absurd cc

-- a frame is lined up with a fault, and nothing else happens
pub lining_fails : (old new : Seen) (frame : Option ℕ) (last : Event) (events : List Event) (fault : Fault)
    → LinesUp old frame (Err fault) new → Happen old (line_events frame ++ events) last (Err fault) new
lining_fails old new None last events fault (same, is) = absurd cc
lining_fails old new (Some number) last events fault (Ok it, happens, is) = absurd cc
lining_fails old new (Some number) last events fault (Err it, happens, is) = (Err it, new, happens, (refl, cc))

-- it is lined up, and the others happen
pub lining_goes : (old mid new : Seen) (frame : Option ℕ) (last : Event) (events : List Event) (done : Unit {0}) (answer : Result Answer Fault)
    → LinesUp old frame (Ok done) mid → Happen mid events last answer new → Happen old (line_events frame ++ events) last answer new
lining_goes old mid new None last events done answer (same, is) rest = subst (λ s. Happen s events last answer new) same rest
lining_goes old mid new (Some number) last events done answer (Ok it, happens, is) rest = (Ok it, mid, happens, rest)
lining_goes old mid new (Some number) last events done answer (Err it, happens, is) rest = absurd cc

-- the same of the last frame
pub last_fails : (old new : Seen) (frame : Option ℕ) (last : Event) (fault : Fault)
    → LinesUp old frame (Err fault) new → Happen old (line_events frame) last (Err fault) new
last_fails old new None last fault up = lining_fails old new None last [] fault up
last_fails old new (Some number) last fault up = lining_fails old new (Some number) last [] fault up

pub last_goes : (old mid new : Seen) (frame : Option ℕ) (last : Event) (done : Unit {0}) (answer : Result Answer Fault)
    → LinesUp old frame (Ok done) mid → Happen mid [] last answer new → Happen old (line_events frame) last answer new
last_goes old mid new None last done answer up rest = lining_goes old mid new None last [] done answer up rest
last_goes old mid new (Some number) last done answer up rest = lining_goes old mid new (Some number) last [] done answer up rest

-- ---- the giver

pub offers_nothing : (old new : Seen) (giver : List ℕ) (after : ℕ) (fault : Fault)
    → Sends old (events.Connect giver giving_connection) (Err fault) new → Offers old giver after (Err fault) new
offers_nothing old new giver after fault sends = (Err fault, new, sends, (refl, refl))

pub offers_next : (old mid new : Seen) (giver : List ℕ) (after : ℕ) (frame : Option ℕ) (delta : Result (Option ℕ) Fault)
    → Sends old (events.Connect giver giving_connection) (Ok frame) mid → Sends mid (events.Offer giver giver after) delta new
    → Offers old giver after (given_with frame delta) new
offers_next old mid new giver after frame delta sends offers = (Ok frame, mid, sends, (delta, offers, refl))

-- ---- the whole

-- a give of which the giver's part had a fault
pub gives_fault : (result : Result (Unit {0}) Fault) (old mid new : Seen) (giver taker : List ℕ) (above : ℕ) (fault : Fault)
    (a b : Option (List ℕ)) (event : Event) → Offers old giver above (Err fault) mid → Closes mid new
    → OnOk result (Appends a b (lines_of event (Err fault))) → OnOk result (PlaysGive old giver taker above a b new)
gives_fault (Ok done) old mid new giver taker above fault a b event offers closes told = (Err fault, mid, offers, (closes, told))
gives_fault (Err it) old mid new giver taker above fault a b event offers closes told = tt

-- a give whose frames were taken up
pub gives_all : (result : Result (Unit {0}) Fault) (old mid taken new : Seen) (giver taker : List ℕ) (above : ℕ) (it : Given)
    (answer : Result Answer Fault) (a b c : Option (List ℕ)) → Offers old giver above (Ok it) mid
    → ShowsSent mid.sent it.delta a b → TakesUp mid taker it answer taken → Closes taken new
    → OnOk result (Appends b c (lines_of all_comes answer)) → OnOk result (PlaysGive old giver taker above a c new)
gives_all (Ok done) old mid taken new giver taker above it answer a b c offers shows takes closes told =
    (Ok it, mid, offers, (answer, taken, b, shows, takes, closes, told))
gives_all (Err fault) old mid taken new giver taker above it answer a b c offers shows takes closes told = tt
