-- What a poll finds from a seat that it entered.
use Rattle.std.proofs.Common.{◌≡◌, ℕ, ◌≤◌, List, Result, Ok, Err, IfOk, sym, subst, arith}
use mathlib.Core.List.{IsPrefix}
use Rattle.std.specs.declared.random_state.RandomState.{RandomState}
use Rattle.sb_types.specs.declared.fault.Fault.{Fault}
use Rattle.sb_codec.specs.declared.message.ask.Ask as asking
use Rattle.sb_holdings.specs.Nodes.{Node}
use Rattle.sb_views.specs.declared.event.Event.{Event}
use Rattle.sb_views.proofs.Prefixes.{prefix_self}
use Rattle.sb_directory.specs.Seats.{Seat}
use Rattle.sb_directory.specs.Serving.{IsLater}
use Rattle.sb_http.specs.declared.backend.MarkedReply.{MarkedReply}
use Rattle.sb_run.specs.Control.{IsLookedUp}
use Rattle.sb_run.specs.HttpMarks.{IsMark}
use Rattle.sb_run.specs.HttpReads.{IsPolled}

entered_later : (before entered : Seat) → IsPrefix before.seen entered.seen → entered.last_call ≡ before.last_call → entered.events ≡ before.events
    → IsLater before entered
entered_later before entered seen last_call events = record {
  seen = seen;
  last_call = subst (λ (calls : List Event). IsPrefix before.last_call calls) (sym last_call) (prefix_self before.last_call);
  events = omega (arith, events);
}

pub polled_at : (opening : Node) (budget : ℕ) (keys : RandomState) (before entered after : Seat) (ask : asking.Ask) (found : Result MarkedReply Fault)
    → IsPrefix before.seen entered.seen → entered.last_call ≡ before.last_call → entered.events ≡ before.events → after ≡ entered
    → IfOk found (λ it. IsLookedUp opening budget entered.seen ask it.reply) → IfOk found (λ it. IsMark opening keys entered.seen ask it.mark)
    → IfOk found (λ it. IsPolled opening budget keys before ask after it.reply it.mark)
polled_at opening budget keys before entered after ask (Ok it) begins last_call events same page mark =
    subst (λ (seat : Seat). IsPolled opening budget keys before ask seat it.reply it.mark) (sym same) (entered_later before entered begins last_call events, page, mark)
polled_at opening budget keys before entered after ask (Err fault) begins last_call events same page mark = tt
