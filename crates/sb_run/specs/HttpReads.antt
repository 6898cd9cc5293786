-- What a seat answers over HTTP.
use Rattle.std.specs.Prelude.{◌≡◌, ℕ, Bool, true, false, List, length, map, find, nat_eq, Option}
use Rattle.std.specs.Option.{option_map}
use Rattle.std.specs.Cmp.Lexicographic.{pointwise}
use Rattle.std.specs.FinMap.{entries}
use Rattle.std.specs.declared.random_state.RandomState.{RandomState}
use Rattle.sb_types.specs.Records.{Settings}
use Rattle.sb_holdings.specs.Nodes.{Node}
use Rattle.sb_codec.specs.declared.message.Message.{Message}
use Rattle.sb_codec.specs.declared.message.Message.TheVariants as kinds
use Rattle.sb_codec.specs.declared.message.ages.OwnerAge.{OwnerAge}
use Rattle.sb_views.specs.declared.event.Event.{Event}
use Rattle.sb_views.specs.NodeViews.{NodeView, OwnerView, shown_owners}
use Rattle.sb_views.specs.Histories.{node_after}
use Rattle.sb_views.specs.Publishing.{IsView}
use Rattle.sb_directory.specs.Seats.{Seat}
use Rattle.sb_directory.specs.Serving.{IsLater}
use Rattle.sb_http.specs.declared.backend.HeldOwner.{HeldOwner}
use Rattle.sb_http.specs.Acts.{Act, asks, puts, polls, lists, measures, fails}
use Rattle.sb_codec.specs.declared.message.ask.Ask as asking
use Rattle.sb_run.specs.HttpMarks.{IsMark}
use Rattle.sb_run.specs.Control.{IsPageReply, IsLookedUp, IsUnknown}
use Rattle.sb_run.specs.StatusReplies.{IsStatusReply}

-- how long ago an owner was heard, if these ages say that
abbrev pub age_of : List ℕ → List OwnerAge → Option ℕ
age_of owner ages = option_map (λ heard. heard.age) (find (λ heard. pointwise nat_eq heard.owner owner) ages)

-- an owner of a view: its name, the version up to which it is shown, the number of its rows, and how long ago it was heard
abbrev pub held_owner : List OwnerAge → List ℕ × OwnerView → HeldOwner
held_owner ages p = record { owner = p.0; version = p.1.upto; rows = length (entries p.1.rows); age = age_of p.0 ages }

abbrev pub IsListed : List OwnerAge → NodeView → List HeldOwner → Type 0
IsListed ages view owners = owners ≡ map (held_owner ages) (shown_owners (entries view))

-- the message names the version of a write, or a fault
abbrev pub is_write_reply : Message → Bool
is_write_reply (kinds.Done version) = true
is_write_reply (kinds.Refused number) = true
is_write_reply other = false

abbrev pub IsWriteReply : Message → Type 0
IsWriteReply message = is_write_reply message ≡ true

-- a question for rows is answered by a page, and one how the node is by its status; any other message is none
abbrev pub AnswersQuestion : Node → Settings → Seat → Message → Seat → Message → Type 0
AnswersQuestion opening settings before (kinds.Ask ask) after reply = IsPageReply opening settings.budget before ask after reply
AnswersQuestion opening settings before (kinds.AskStatus asked) after reply = IsStatusReply opening settings before asked after reply
AnswersQuestion opening settings before (kinds.Hello x) after reply = (after ≡ before) × IsUnknown reply
AnswersQuestion opening settings before (kinds.Digest x) after reply = (after ≡ before) × IsUnknown reply
AnswersQuestion opening settings before (kinds.Delta x) after reply = (after ≡ before) × IsUnknown reply
AnswersQuestion opening settings before (kinds.Bye x) after reply = (after ≡ before) × IsUnknown reply
AnswersQuestion opening settings before (kinds.Put x) after reply = (after ≡ before) × IsUnknown reply
AnswersQuestion opening settings before (kinds.Rows x) after reply = (after ≡ before) × IsUnknown reply
AnswersQuestion opening settings before (kinds.Done x) after reply = (after ≡ before) × IsUnknown reply
AnswersQuestion opening settings before (kinds.Refused x) after reply = (after ≡ before) × IsUnknown reply
AnswersQuestion opening settings before (kinds.NodeStatus x) after reply = (after ≡ before) × IsUnknown reply
AnswersQuestion opening settings before (kinds.AskChange x) after reply = (after ≡ before) × IsUnknown reply
AnswersQuestion opening settings before (kinds.Notice x) after reply = (after ≡ before) × IsUnknown reply
AnswersQuestion opening settings before kinds.AskAges after reply = (after ≡ before) × IsUnknown reply
AnswersQuestion opening settings before (kinds.Ages x) after reply = (after ≡ before) × IsUnknown reply

-- a poll is answered by a page of what the seat sees in the end, which is no less than before, with the mark of the same rows
-- by these keys
abbrev pub IsPolled : Node → ℕ → RandomState → Seat → asking.Ask → Seat → Message → List ℕ → Type 0
IsPolled opening budget keys before ask after reply mark =
    IsLater before after × IsLookedUp opening budget after.seen ask reply × IsMark opening keys after.seen ask mark

-- the owners of the view after these events, with these ages
abbrev pub AreOwnersAfter : Node → List Event → List OwnerAge → List HeldOwner → Type 0
AreOwnersAfter opening seen ages owners = (view : NodeView) × IsView (node_after opening seen) view × IsListed ages view owners

-- the same with some ages
abbrev pub AreOwnersSeen : Node → List Event → List HeldOwner → Type 0
AreOwnersSeen opening seen owners = (ages : List OwnerAge) × AreOwnersAfter opening seen ages owners

-- what a call over HTTP reads or is answered, and what the seat has seen then; a write is answered by the owner's thread, and the seat
-- stays as it was
abbrev pub Reads : Node → Settings → RandomState → Seat → Act → Seat → Type 0
Reads opening settings keys before (asks request reply) after = AnswersQuestion opening settings before request after reply
Reads opening settings keys before (puts write reply) after = (after ≡ before) × IsWriteReply reply
Reads opening settings keys before (polls ask patience reply mark) after =
    IsPolled opening settings.budget keys before ask after reply mark
Reads opening settings keys before (lists owners) after = IsLater before after × AreOwnersSeen opening after.seen owners
Reads opening settings keys before (measures text) after = after ≡ before
Reads opening settings keys before (fails fault) after = IsLater before after

-- a seat that answers over HTTP, with the keys of its marks
pub record HttpSeat : Type 0 where
  pub seat : Seat
  pub keys : RandomState

-- each call reads so, and leaves the keys
abbrev pub SeatReads : Node → Settings → HttpSeat → Act → HttpSeat → Type 0
SeatReads opening settings before act after = (after.keys ≡ before.keys) × Reads opening settings before.keys before.seat act after.seat
