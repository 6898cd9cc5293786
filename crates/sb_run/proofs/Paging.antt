-- A seat that answered a question is later, and made no event.
use Rattle.std.proofs.Common.{inl, inr, ℕ, List, sym, subst, arith}
use mathlib.Core.List.{IsPrefix}
use Rattle.sb_holdings.specs.Nodes.{Node}
use Rattle.sb_codec.specs.declared.message.Message.{Message}
use Rattle.sb_codec.specs.declared.message.ask.Ask as asking
use Rattle.sb_views.specs.declared.event.Event.{Event}
use Rattle.sb_directory.specs.Seats.{Seat}
use Rattle.sb_directory.specs.Serving.{IsLater}
use Rattle.sb_directory.specs.Handling.{later-same}
use Rattle.sb_run.specs.Control.{IsPageReply}
use Rattle.sb_run.specs.Entering.{IsLooking}
use Rattle.sb_run.proofs.Entering.{looking_same}

pub page_later : (opening : Node) (budget : ℕ) (before : Seat) (ask : asking.Ask) (after : Seat) (reply : Message)
    → IsPageReply opening budget before ask after reply → IsLater before after
page_later opening budget before ask after reply (inl p) = record {
  seen = p.0;
  last_call = subst (λ (xs : List Event). IsPrefix before.last_call xs) (sym p.1) (later-same before).last_call;
  events = (let e = p.2 in omega (arith, e));
}
page_later opening budget before ask after reply (inr p) = subst (λ (seat : Seat). IsLater before seat) (sym p.0) (later-same before)

pub page_looking : (opening : Node) (budget : ℕ) (before : Seat) (ask : asking.Ask) (after : Seat) (reply : Message)
    → IsPageReply opening budget before ask after reply → IsLooking before after
page_looking opening budget before ask after reply (inl p) = record {
  seen = p.0;
  last_call = subst (λ (xs : List Event). IsPrefix before.last_call xs) (sym p.1) (later-same before).last_call;
  events = p.2;
}
page_looking opening budget before ask after reply (inr p) = subst (λ (seat : Seat). IsLooking before seat) (sym p.0) (looking_same before)
