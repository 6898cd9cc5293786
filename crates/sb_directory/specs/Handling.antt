-- What calls of a session leave of a seat, as the directory at one end of it promises.
use Rattle.std.proofs.Common.{◌≡◌, false, List, [], length, Ok, Err, refl, sym, ap, ◌∙◌, arith}
use Rattle.std.proofs.lemmas.Bool.{false≢true}
use mathlib.Core.List.{IsPrefix}
use Rattle.sb_types.specs.Records.{Settings}
use Rattle.sb_holdings.specs.Nodes.{Node}
use Rattle.sb_session.specs.Handlers.{Act, tells, gives, applies, may_enter}
use Rattle.sb_views.specs.declared.event.Event.{Event}
use Rattle.sb_views.proofs.Prefixes.{prefix_self, prefix_trans}
use Rattle.sb_directory.specs.Seats.{Seat}
use Rattle.sb_directory.specs.Serving.{Serves, IsStill, IsLater, events_of}

-- the last call begins the last call after this one
last-grows : (opening : Node) (settings : Settings) (old new : Seat) (act : Act) → Serves opening settings old act new → IsPrefix old.last_call new.last_call
last-grows opening settings old new act step =
    prefix_trans old.last_call step.history new.last_call step.begins.last_call (events_of act, sym step.last_call)

no-events : (act : Act) → may_enter act ≡ false → events_of act ≡ []
no-events (tells from want answer) none = refl
no-events (gives theirs answer) none = refl
no-events (applies blocks (Ok ends)) none = absurd (false≢true (sym none))
no-events (applies blocks (Err fault)) none = refl

pub serves-nothing : (opening : Node) (settings : Settings) (old new : Seat) (act : Act) → may_enter act ≡ false
    → Serves opening settings old act new → IsStill old new
serves-nothing opening settings old new act none step = record {
  seen = step.seen none;
  last_call = last-grows opening settings old new act step;
  events = omega (arith, step.events, ap (λ (l : List Event). length l) (no-events act none));
}

pub still-same : (seat : Seat) → IsStill seat seat
still-same seat = record { seen = refl; last_call = prefix_self seat.last_call; events = refl }

pub still-on : (old mid new : Seat) → IsStill old mid → IsStill mid new → IsStill old new
still-on old mid new first next = record {
  seen = next.seen ∙ first.seen;
  last_call = prefix_trans old.last_call mid.last_call new.last_call first.last_call next.last_call;
  events = next.events ∙ first.events;
}

pub serves-later : (opening : Node) (settings : Settings) (old new : Seat) (act : Act) → Serves opening settings old act new → IsLater old new
serves-later opening settings old new act step = record {
  seen = step.grows;
  last_call = last-grows opening settings old new act step;
  events = omega (arith, step.events);
}

pub later-same : (seat : Seat) → IsLater seat seat
later-same seat = record { seen = prefix_self seat.seen; last_call = prefix_self seat.last_call; events = omega arith }

pub later-on : (old mid new : Seat) → IsLater old mid → IsLater mid new → IsLater old new
later-on old mid new first next = record {
  seen = prefix_trans old.seen mid.seen new.seen first.seen next.seen;
  last_call = prefix_trans old.last_call mid.last_call new.last_call first.last_call next.last_call;
  events = omega (arith, first.events, next.events);
}
