-- One message out of a connection, and what is sent before it or after.
use Rattle.std.proofs.Common.{◌≡◌, ◌++◌, inl, inr, List, ℕ, Option, Some, None, Result, Ok, Err, true, refl, sym, ap, subst, ◌∙◌}
use Rattle.std.specs.Io.KnownBytes.{Keeps, Appends, Consumes}
use Rattle.std.proofs.KnownBytes.{Keeps-refl}
use Rattle.sb_types.specs.declared.fault.Fault.{Fault}
use Rattle.sb_types.specs.declared.fault.Fault.TheVariants.{Closed, Truncated}
use Rattle.sb_codec.specs.declared.message.Message.{Message}
use Rattle.sb_frames.specs.Frames.{frame}
use Rattle.sb_frames.specs.Streams.{Stream, open_with, shut}
use Rattle.sb_frames.specs.Receiving.{Receives, Stops, is_shut}
use Rattle.sb_frames.specs.Sending.{Sends}
use Rattle.sb_frames.specs.Connections.{Connection, at_start, KeepsInput, KeepsOutput}
use Rattle.sb_control.specs.OneMessage.{ReceivesOneFrom, ReceivesOne, Asks}

pub one_came : (old new : Connection) (m : Message) (stream : Stream) → Receives stream new.stream old.input new.input old.left new.left (Ok (Some m))
    → ReceivesOneFrom stream old new (Ok m)
one_came old new m (open_with held) r = (r.bytes, r.consumed, (r.given.rest, r.given.front, r.given.left))
one_came old new m shut r = absurd cc (r.0)

pub none_came : (old new : Connection) (stream : Stream) → Receives stream new.stream old.input new.input old.left new.left (Ok None)
    → ReceivesOneFrom stream old new (Err Truncated)
none_came old new (open_with held) r = (r.bytes, r.consumed, inl (r.given.0, refl, r.given.2))
none_came old new shut r = absurd cc (r.0)

pub one_stopped : (old new : Connection) (fault : Fault) (stream : Stream) → Receives stream new.stream old.input new.input old.left new.left (Err fault)
    → ReceivesOneFrom stream old new (Err fault)
one_stopped old new fault (open_with held) r = (r.bytes, r.consumed, inr r.given)
one_stopped old new fault shut r = (cc (r.0), r.1, r.2, r.3)

from_same : (old mid new : Connection) (stream : Stream) (result : Result Message Fault) → mid.input ≡ old.input → mid.left ≡ old.left → ReceivesOneFrom stream mid new result
    → ReceivesOneFrom stream old new result
from_same old mid new (open_with held) (Ok m) input left r = (r.0, subst (λ (x : Option (List ℕ)). Consumes x new.input r.0) input r.1, r.2)
from_same old mid new (open_with held) (Err fault) input left r = (
  r.0,
  subst (λ (x : Option (List ℕ)). Consumes x new.input r.0) input r.1,
  elim r.2 [
    | inl none ↦ inl none
    | inr stops ↦ inr (subst (λ (n : ℕ). Stops fault (held ++ r.0) new.stream new.input n new.left) left stops)
  ],
)
from_same old mid new shut result input left r = (r.0, r.1, subst (λ (x : Option (List ℕ)). Keeps x new.input) input r.2, r.3 ∙ left)

-- what is received from a connection of which nothing was read since
pub received_from : (old mid new : Connection) (result : Result Message Fault) → mid.input ≡ old.input → mid.stream ≡ old.stream → mid.left ≡ old.left → ReceivesOne mid new result
    → ReceivesOne old new result
received_from old mid new result input stream left r =
    from_same old mid new old.stream result input left (subst (λ (s : Stream). ReceivesOneFrom s mid new result) stream r)

to_same : (old mid new : Connection) (stream : Stream) (m : Message) → KeepsInput mid new → ReceivesOneFrom stream old mid (Ok m) → ReceivesOneFrom stream old new (Ok m)
to_same old mid new (open_with held) m kept r =
    (r.0, subst (λ (x : Option (List ℕ)). Consumes old.input x r.0) (sym kept.0) r.1, (r.2.0, r.2.1, kept.1 ∙ r.2.2))
to_same old mid new shut m kept r = absurd cc (r.0)

-- and nothing is read after it
pub received_to : (old mid new : Connection) (m : Message) → KeepsInput mid new → ReceivesOne old mid (Ok m) → ReceivesOne old new (Ok m)
received_to old mid new m kept r = to_same old mid new old.stream m kept r

shut_from : (old new : Connection) (stream : Stream) (fault : Fault) → is_shut stream ≡ true → fault ≡ Closed → stream ≡ old.stream → new ≡ old → ReceivesOneFrom stream old new (Err fault)
shut_from old new (open_with held) fault e is same unchanged = absurd cc
shut_from old new shut fault e is same unchanged = (
  ap Err is,
  ap (λ (c : Connection). c.stream) unchanged ∙ sym same,
  subst (λ (c : Connection). Keeps old.input c.input) (sym unchanged) (Keeps-refl old.input),
  ap (λ (c : Connection). c.left) unchanged,
)

-- a connection that is closed gives nothing
pub none_starts : (old new : Connection) (fault : Fault) → is_shut old.stream ≡ true → fault ≡ Closed → new ≡ old → ReceivesOne old new (Err fault)
none_starts old new fault e is unchanged = shut_from old new old.stream fault e is refl unchanged

pub keeps_same : (a b : Option (List ℕ)) → b ≡ a → Keeps a b
keeps_same a b same = subst (λ (x : Option (List ℕ)). Keeps a x) (sym same) (Keeps-refl a)

pub asks_cut : (old start new : Connection) (request : Message) (fault : Fault) → start ≡ at_start old
    → Sends {X = Unit {0}} start.output new.output (frame request) (Err fault) → KeepsInput start new → Asks request old new (Err fault)
asks_cut old start new request fault is sends kept =
    inr (inl (
      fault,
      refl,
      subst (λ (c : Connection). Sends {X = Unit {0}} c.output new.output (frame request) (Err fault)) is sends,
      subst (λ (c : Connection). KeepsInput c new) is kept,
    ))

pub asks_answered : (old start mid new : Connection) (request : Message) (result : Result Message Fault) → start ≡ at_start old → Appends start.output mid.output (frame request)
    → KeepsInput start mid → KeepsOutput mid new → ReceivesOne mid new result → Asks request old new result
asks_answered old start mid new request result is sent kept still received =
    inl (
      subst (λ (x : Option (List ℕ)). Appends old.output x (frame request)) (sym still.0) (subst (λ (c : Connection). Appends c.output mid.output (frame request)) is sent),
      received_from old mid new result (kept.0 ∙ ap (λ (c : Connection). c.input) is) (kept.1 ∙ ap (λ (c : Connection). c.stream) is) (kept.2 ∙ ap (λ (c : Connection). c.left) is) received,
    )
