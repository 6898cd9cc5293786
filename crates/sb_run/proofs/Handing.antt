-- A seat's last call, and what it has seen, after calls that follow on others.
use Rattle.std.proofs.Common.{◌≡◌, ◌+◌, List, [], ◌∷◌, Option, Some, None, Result, refl, sym, subst, arith}
use mathlib.Core.List.{IsPrefix}
use Rattle.sb_types.specs.declared.fault.Fault.{Fault}
use Rattle.sb_holdings.specs.Nodes.{Node}
use Rattle.sb_log.specs.Records.{Committed}
use Rattle.sb_views.specs.declared.event.Event.{Event}
use Rattle.sb_views.specs.declared.event.Event.TheVariants.{TookOwn}
use Rattle.sb_views.proofs.Prefixes.{prefix_self, prefix_trans}
use Rattle.sb_directory.specs.declared.receipt.Receipt.{Receipt}
use Rattle.sb_directory.specs.Seats.{Seat, Begins, MakesEvent, with_last_call, own_due_after}
use Rattle.sb_directory.specs.Serving.{IsStill, IsLater}
use Rattle.sb_directory.specs.Handling.{later-on}
use Rattle.sb_run.specs.OwnWriting.{IsTaken, IsTurnedAway, IsHandedIn}

-- what begins with what a later seat has seen and with its last call begins with those of an earlier one
pub begins_before : (l : List Event) (before mid : Seat) → IsLater before mid → Begins l mid → Begins l before
begins_before l before mid later begins = record {
  seen = prefix_trans before.seen mid.seen l later.seen begins.seen;
  last_call = prefix_trans before.last_call mid.last_call l later.last_call begins.last_call;
}

entered_from : (due : List Event → Result (Unit {0}) Fault) (event : Event) (before mid after : Seat) → IsLater before mid → MakesEvent due event mid after → MakesEvent due event before after
entered_from due event before mid after later is = record {
  history = is.history;
  begins = begins_before is.history before mid later is.begins;
  may = is.may;
  last_call = is.last_call;
}

pub taken_from : (opening : Node) (before mid : Seat) (c : Committed) (receipt : Receipt) (after : Seat)
    → IsLater before mid → IsTaken opening mid c receipt after → IsTaken opening before c receipt after
taken_from opening before mid c receipt after later taken =
    (entered_from (λ history. own_due_after opening history c) (TookOwn c.entry) before mid after later taken.0, taken.1)

pub turned_from : (opening : Node) (before mid : Seat) (c : Committed) (fault : Fault) (after : Seat)
    → IsLater before mid → IsTurnedAway opening mid c fault after → IsTurnedAway opening before c fault after
turned_from opening before mid c fault after later turned = (begins_before after.last_call before mid later turned.0, turned.1)

-- the owed write was entered from a seat that came behind this one
pub handed_from : (opening : Node) (c : Committed) (before mid after : Seat) → IsLater before mid
    → MakesEvent (λ history. own_due_after opening history c) (TookOwn c.entry) mid after → IsHandedIn opening before (Some c) after
handed_from opening c before mid after later is =
    (after, entered_from (λ history. own_due_after opening history c) (TookOwn c.entry) before mid after later is, prefix_self after.last_call)

-- and the last call of a later one still has it
pub handed_on : (opening : Node) (before : Seat) (owed : Option Committed) (mid after : Seat) → IsPrefix mid.last_call after.last_call
    → IsHandedIn opening before owed mid → IsHandedIn opening before owed after
handed_on opening before None mid after more is = tt
handed_on opening before (Some c) mid after more is = (is.0, is.1, prefix_trans is.0.last_call mid.last_call after.last_call is.2 more)

-- a call that made an event
pub event_called : (due : List Event → Result (Unit {0}) Fault) (event : Event) (old new : Seat) → MakesEvent due event old new → IsPrefix old.last_call new.last_call
event_called due event old new is = prefix_trans old.last_call is.history new.last_call is.begins.last_call (event ∷ [], sym is.last_call)

pub event_later : (due : List Event → Result (Unit {0}) Fault) (event : Event) (old new : Seat) → IsPrefix old.seen new.seen → MakesEvent due event old new
    → new.events ≡ old.events + 1 → IsLater old new
event_later due event old new grows is more = record {
  seen = grows;
  last_call = event_called due event old new is;
  events = omega (arith, more);
}

-- a call that made none behind others
pub known_later : (before mid after : Seat) → IsLater before mid → Begins after.last_call mid → after ≡ with_last_call mid after.last_call → IsLater before after
known_later before mid after later begins same =
    later-on before mid after later (subst (IsLater mid) (sym same) (record { seen = prefix_self mid.seen; last_call = begins.last_call; events = omega arith }))

-- a call that made none
pub known_still : (before after : Seat) → Begins after.last_call before → after ≡ with_last_call before after.last_call → IsStill before after
known_still before after begins same = subst (IsStill before) (sym same) (record { seen = refl; last_call = begins.last_call; events = refl })
