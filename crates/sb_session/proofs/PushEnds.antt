-- A push as far as it has come, and how it ends.
use Rattle.std.proofs.Common.{◌≡◌, ℕ, true, false, List, [], ◌∷◌, ◌++◌, Option, Some, None, Result, Ok, Err, refl, sym, ap, subst, ◌∙◌, append_assoc}
use Rattle.std.specs.List.{flat_map}
use Rattle.std.specs.Io.KnownBytes.{Keeps, Appends, Consumes}
use Rattle.std.proofs.KnownBytes.{Consumes-trans}
use Rattle.std.proofs.lemmas.List.{append-nil}
use Rattle.sb_types.specs.declared.fault.Fault.{Fault}
use Rattle.sb_types.specs.declared.fault.Fault.TheVariants.{Closed}
use Rattle.sb_types.specs.Records.{Block}
use Rattle.sb_codec.specs.declared.message.Message.{Message}
use Rattle.sb_frames.specs.Frames.{frame, whole, front_of}
use Rattle.sb_frames.specs.Streams.{Stream, open_with, shut, Hands}
use Rattle.sb_frames.specs.Connections.{Connection, at_start, KeepsInput, KeepsOutput, ReceivesOn}
use Rattle.sb_frames.specs.Receiving.{is_shut, Receives, ReceivesOpen}
use Rattle.sb_frames.proofs.Fronts.{front_frame}
use Rattle.sb_session.specs.declared.pushing.PushEnd.{PushEnd}
use Rattle.sb_session.specs.declared.pushing.PushEnd.TheVariants.{AfterHello, BeforeHello}
use Rattle.sb_session.specs.Sessions.{Session}
use Rattle.sb_session.specs.Telling.{CutShort}
use Rattle.sb_session.specs.Pushes.{pushed_by, first_refusal, TakesFirstUnless, Awaiting, before_hello, after_hello, at_first, at_second, at_reading_first, at_reading_second, AwaitsOpen, AwaitsFrom, Awaits, PushesOpen, heard, cut, PushesFrom, Pushes}
use Rattle.sb_session.proofs.Talking.{stops_later}

-- ---- the first message

pub first_refused : (X : Type 0) (o : Option Fault) (s s' : Session) (fault : Fault) → TakesFirstUnless {X = X} o s (Err fault) s' → o ≡ Some fault
first_refused X (Some other) s s' fault takes = cc (takes.0)
first_refused X None s s' fault takes = absurd takes

pub first_taken : (X : Type 0) (o : Option Fault) (s s' : Session) (x : X) → TakesFirstUnless {X = X} o s (Ok x) s' → o ≡ None
first_taken X (Some other) s s' x takes = absurd cc (takes.0)
first_taken X None s s' x takes = refl

-- ---- the peer is heard

module _ (s : Session) (old : Connection) where
  none_comes : (new : Connection) (stream : Stream) → Receives stream new.stream old.input new.input old.left new.left (Ok None) → AwaitsFrom s stream old new (Ok BeforeHello)
  none_comes new (open_with held) r = record { bytes = r.bytes; consumed = r.consumed; ends = before_hello refl r.given.0 r.given.2 r.given.1 }
  none_comes new shut r = absurd cc (r.0)

  pub awaits_none : (new : Connection) → ReceivesOn old new (Ok None) → Awaits s old new (Ok BeforeHello)
  awaits_none new received = none_comes new old.stream received

  fault_comes : (new : Connection) (fault : Fault) (stream : Stream) → Receives stream new.stream old.input new.input old.left new.left (Err fault) → AwaitsFrom s stream old new (Err fault)
  fault_comes new fault (open_with held) r = record { bytes = r.bytes; consumed = r.consumed; ends = at_reading_first fault refl r.given }
  fault_comes new fault shut r =
      let same : fault ≡ Closed = cc (r.0) in
      (ap Err same, r.1, r.2, r.3)

  pub awaits_fault : (new : Connection) (fault : Fault) → ReceivesOn old new (Err fault) → Awaits s old new (Err fault)
  awaits_fault new fault received = fault_comes new fault old.stream received

  refused_comes : (new : Connection) (m : Message) (fault : Fault) (stream : Stream) → first_refusal s m ≡ Some fault
      → Receives stream new.stream old.input new.input old.left new.left (Ok (Some m)) → AwaitsFrom s stream old new (Err fault)
  refused_comes new m fault (open_with held) is r =
      let hands : Hands (held ++ r.bytes) m new.stream = r.given in
      record { bytes = r.bytes; consumed = r.consumed; ends = at_first fault m hands.rest refl hands.front is hands.left }
  refused_comes new m fault shut is r = absurd cc (r.0)

  pub awaits_refused : (new : Connection) (m : Message) (fault : Fault) → first_refusal s m ≡ Some fault → ReceivesOn old new (Ok (Some m)) → Awaits s old new (Err fault)
  awaits_refused new m fault is received = refused_comes new m fault old.stream is received

  -- the second message, or none
  module _ (m : Message) (mid new : Connection) (taken : first_refusal s m ≡ None) where
    over_both : (held bytes rest more : List ℕ) → held ++ bytes ≡ frame m ++ rest → held ++ (bytes ++ more) ≡ frame m ++ (rest ++ more)
    over_both held bytes rest more laid = sym (append_assoc held bytes more) ∙ ap (λ (x : List ℕ). x ++ more) laid ∙ append_assoc (frame m) rest more

    ends_comes : (stream : Stream) → Receives stream mid.stream old.input mid.input old.left mid.left (Ok (Some m)) → ReceivesOn mid new (Ok None) → AwaitsFrom s stream old new (Ok AfterHello)
    ends_comes (open_with held) r received =
        let hands : Hands (held ++ r.bytes) m mid.stream = r.given in
        let next : ReceivesOpen hands.rest new.stream mid.input new.input mid.left new.left (Ok None) =
        subst (λ x. Receives x new.stream mid.input new.input mid.left new.left (Ok None)) hands.left received in
        record {
          bytes = r.bytes ++ next.bytes;
          consumed = Consumes-trans old.input mid.input new.input r.bytes next.bytes r.consumed next.consumed;
          ends = after_hello m refl (over_both held r.bytes hands.rest next.bytes hands.leads.laid ∙ ap (λ (x : List ℕ). frame m ++ x) next.given.0 ∙ append-nil (frame m)) taken next.given.2 next.given.1;
        }
    ends_comes shut r received = absurd cc (r.0)

    pub awaits_end : ReceivesOn old mid (Ok (Some m)) → ReceivesOn mid new (Ok None) → Awaits s old new (Ok AfterHello)
    awaits_end first received = ends_comes old.stream first received

    more_comes : (n : Message) (stream : Stream) → Receives stream mid.stream old.input mid.input old.left mid.left (Ok (Some m)) → ReceivesOn mid new (Ok (Some n)) → AwaitsFrom s stream old new (Err Closed)
    more_comes n (open_with held) r received =
        let hands : Hands (held ++ r.bytes) m mid.stream = r.given in
        let next : ReceivesOpen hands.rest new.stream mid.input new.input mid.left new.left (Ok (Some n)) =
        subst (λ x. Receives x new.stream mid.input new.input mid.left new.left (Ok (Some n))) hands.left received in
        let more : Hands (hands.rest ++ next.bytes) n new.stream = next.given in
        record {
          bytes = r.bytes ++ next.bytes;
          consumed = Consumes-trans old.input mid.input new.input r.bytes next.bytes r.consumed next.consumed;
          ends = at_second m n (hands.rest ++ next.bytes) more.rest refl
              (ap front_of (over_both held r.bytes hands.rest next.bytes hands.leads.laid) ∙ front_frame m (hands.rest ++ next.bytes) hands.leads.limits) taken more.front more.left;
        }
    more_comes n shut r received = absurd cc (r.0)

    pub awaits_more : (n : Message) → ReceivesOn old mid (Ok (Some m)) → ReceivesOn mid new (Ok (Some n)) → Awaits s old new (Err Closed)
    awaits_more n first received = more_comes n old.stream first received

    stop_comes : (fault : Fault) (stream : Stream) → Receives stream mid.stream old.input mid.input old.left mid.left (Ok (Some m)) → ReceivesOn mid new (Err fault) → AwaitsFrom s stream old new (Err fault)
    stop_comes fault (open_with held) r received =
        let hands : Hands (held ++ r.bytes) m mid.stream = r.given in
        let next : ReceivesOpen hands.rest new.stream mid.input new.input mid.left new.left (Err fault) =
        subst (λ x. Receives x new.stream mid.input new.input mid.left new.left (Err fault)) hands.left received in
        record {
          bytes = r.bytes ++ next.bytes;
          consumed = Consumes-trans old.input mid.input new.input r.bytes next.bytes r.consumed next.consumed;
          ends = at_reading_second fault m (hands.rest ++ next.bytes) refl (over_both held r.bytes hands.rest next.bytes hands.leads.laid) taken
              (stops_later fault (hands.rest ++ next.bytes) new.stream new.input old.left mid.left new.left r.fewer next.given);
        }
    stop_comes fault shut r received = absurd cc (r.0)

    pub awaits_stop : (fault : Fault) → ReceivesOn old mid (Ok (Some m)) → ReceivesOn mid new (Err fault) → Awaits s old new (Err fault)
    awaits_stop fault first received = stop_comes fault old.stream first received

-- ---- the whole push

module _ (s : Session) (blocks : List Block) (old new : Connection) where
  shut_pushes : (fault : Fault) (stream : Stream) → is_shut stream ≡ true → fault ≡ Closed → new ≡ old → PushesFrom s blocks stream old new (Err fault)
  shut_pushes fault (open_with held) e is same = absurd cc
  shut_pushes fault shut e is same = (ap Err is, same)

  pub never_pushes : (fault : Fault) → is_shut old.stream ≡ true → fault ≡ Closed → new ≡ old → Pushes s blocks old new (Err fault)
  never_pushes fault e is same = shut_pushes fault old.stream e is same

  cut_pushes : (fault : Fault) (stream : Stream) → is_shut stream ≡ false → new.stream ≡ stream → new.input ≡ old.input → new.left ≡ old.left
      → CutShort old.output new.output (pushed_by s blocks) fault → PushesFrom s blocks stream old new (Err fault)
  cut_pushes fault (open_with held) e held_on input left short = cut fault refl short input held_on left
  cut_pushes fault shut e held_on input left short = absurd cc

  pub pushes_cut : (fault : Fault) → is_shut old.stream ≡ false → KeepsInput (at_start old) new → CutShort old.output new.output (pushed_by s blocks) fault → Pushes s blocks old new (Err fault)
  pushes_cut fault e kept short = cut_pushes fault old.stream e kept.1 kept.0 kept.2 short

  module _ (mid : Connection) (result : Result PushEnd Fault) where
    heard_pushes : (stream : Stream) → is_shut stream ≡ false → mid.input ≡ old.input → mid.left ≡ old.left → Appends old.output new.output (flat_map frame (pushed_by s blocks))
        → AwaitsFrom s stream mid new result → PushesFrom s blocks stream old new result
    heard_pushes (open_with held) e input left put awaits =
        heard put (record {
          bytes = awaits.bytes;
          consumed = subst (λ (x : Option (List ℕ)). Consumes x new.input awaits.bytes) input awaits.consumed;
          ends = subst (λ (n : ℕ). Awaiting s (held ++ awaits.bytes) n new result) left awaits.ends;
        })
    heard_pushes shut e input left put awaits = absurd cc

    pub pushes_heard : is_shut old.stream ≡ false → KeepsInput (at_start old) mid → Appends old.output mid.output (flat_map frame (pushed_by s blocks)) → KeepsOutput mid new
        → Awaits s mid new result → Pushes s blocks old new result
    pushes_heard e kept put same awaits =
        heard_pushes old.stream e kept.0 kept.2
        (subst (λ (x : Option (List ℕ)). Appends old.output x (flat_map frame (pushed_by s blocks))) (sym same.0) put)
        (subst (λ (x : Stream). AwaitsFrom s x mid new result) kept.1 awaits)
