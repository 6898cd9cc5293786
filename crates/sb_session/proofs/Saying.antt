-- Messages that are sent one after the other.
use Rattle.std.proofs.Common.{◌≡◌, ◌≢◌, ℕ, Bool, true, IfErr, List, [], ◌∷◌, ◌++◌, take, Option, Result, Ok, Err, refl, sym, ap, subst, ◌∙◌, inl, inr, append_assoc, arith}
use Rattle.std.specs.List.{flat_map}
use Rattle.std.specs.Io.KnownBytes.{Keeps, Appends}
use Rattle.std.proofs.KnownBytes.{Appends-trans, Appends-kept, Appends-nil}
use Rattle.std.proofs.lemmas.Grind.{flat_map-append}
use Rattle.std.proofs.lemmas.List.{append-nil}
use Rattle.sb_types.specs.declared.fault.Fault.{Fault}
use Rattle.sb_types.specs.declared.fault.Fault.TheVariants.{NoMemory, Closed, ReadFailed, WriteFailed}
use Rattle.sb_codec.specs.declared.message.Message.{Message}
use Rattle.sb_frames.specs.Frames.{frame}
use Rattle.sb_frames.specs.Streams.{Stream, open_with, shut}
use Rattle.sb_frames.specs.Connections.{Connection, ReceivesOn}
use Rattle.sb_frames.specs.declared.last_write.Outcome.{Outcome}
use Rattle.sb_frames.specs.Sending.{Sends, OnlyWhereFailed}
use Rattle.sb_frames.specs.Receiving.{is_frame_fault, OnlyWhereReadFailed, Receives, Stops, is_bad, no_memory, read_failed, cut_short, turns_spent}
use Rattle.sb_frames.proofs.Fronts.{of_a_frame}
use Rattle.sb_frames.proofs.Splitting.{length-frame}
use Rattle.sb_session.specs.Telling.{CutShort, Says}

pub kept_nothing : (a b : Option (List ℕ)) → Keeps a b → Appends a b []
kept_nothing a b kept = Appends-kept a a b [] (Appends-nil a) kept

pub kept_after : (a b c : Option (List ℕ)) (bytes : List ℕ) → Appends a b bytes → Keeps b c → Appends a c bytes
kept_after a b c bytes put kept = Appends-kept a b c bytes put kept

-- one message is sent as `send` says
pub says_one : {X : Type 0} (a b : Option (List ℕ)) (m : Message) (r : Result X Fault) → Sends a b (frame m) r → Says a b (m ∷ []) r
says_one a b m (Ok x) sends = rw (append-nil (frame m)) sends
says_one a b m (Err NoMemory) sends =
    record {
      sent = [];
      last = m;
      unsent = [];
      count = 0;
      all = refl;
      part = omega (arith, length-frame m);
      put_out = kept_nothing a b sends;
      why = inr (refl, refl);
    }
says_one a b m (Err (WriteFailed count)) sends =
    record { sent = []; last = m; unsent = []; count = count; all = refl; part = sends.0; put_out = sends.1; why = inl refl }
says_one a b m (Err _) sends = absurd sends

-- what is cut short behind messages that went out
pub cut_behind : (a b c : Option (List ℕ)) (ms ns : List Message) (fault : Fault) → Appends a b (flat_map frame ms) → CutShort b c ns fault → CutShort a c (ms ++ ns) fault
cut_behind a b c ms ns fault first cut =
    record {
      sent = ms ++ cut.sent;
      last = cut.last;
      unsent = cut.unsent;
      count = cut.count;
      all = ap (λ (x : List Message). ms ++ x) cut.all ∙ sym (append_assoc ms cut.sent (cut.last ∷ cut.unsent));
      part = cut.part;
      put_out = subst (λ (x : List ℕ). Appends a c x)
          (sym (append_assoc (flat_map frame ms) (flat_map frame cut.sent) (take cut.count (frame cut.last))) ∙ ap (λ (x : List ℕ). x ++ take cut.count (frame cut.last)) (sym
          (flat_map-append frame ms cut.sent)))
          (Appends-trans a b c (flat_map frame ms) (flat_map frame cut.sent ++ take cut.count (frame cut.last)) first cut.put_out);
      why = cut.why;
    }

-- what goes out behind messages that went out
pub put_behind : (a b c : Option (List ℕ)) (ms ns : List Message) → Appends a b (flat_map frame ms) → Appends b c (flat_map frame ns) → Appends a c (flat_map frame (ms ++ ns))
put_behind a b c ms ns first next = subst (λ (x : List ℕ). Appends a c x) (sym (flat_map-append frame ms ns)) (Appends-trans a b c (flat_map frame ms) (flat_map frame ns) first next)

pub says_more : {X : Type 0} (a b c : Option (List ℕ)) (ms ns : List Message) (r : Result X Fault) → Appends a b (flat_map frame ms) → Says b c ns r → Says a c (ms ++ ns) r
says_more a b c ms ns (Ok x) first next = put_behind a b c ms ns first next
says_more a b c ms ns (Err fault) first next = cut_behind a b c ms ns fault first next

-- nothing more is sent where a front is cut short
pub cut_in_front : (a b : Option (List ℕ)) (ms ns : List Message) (fault : Fault) → CutShort a b ms fault → CutShort a b (ms ++ ns) fault
cut_in_front a b ms ns fault cut =
    record {
      sent = cut.sent;
      last = cut.last;
      unsent = cut.unsent ++ ns;
      count = cut.count;
      all = ap (λ (x : List Message). x ++ ns) cut.all ∙ append_assoc cut.sent (cut.last ∷ cut.unsent) ns;
      part = cut.part;
      put_out = cut.put_out;
      why = cut.why;
    }

-- ---- no write failed

frame_wrote : (X : Type 0) (fault : Fault) (last : Outcome) → is_frame_fault fault ≡ true → OnlyWhereFailed {X = X} (Err fault) last
frame_wrote X (WriteFailed count) last is = absurd cc
frame_wrote X _ last is = tt

stops_wrote : (X : Type 0) (fault : Fault) (bytes : List ℕ) (new : Stream) (to : Option (List ℕ)) (before left : ℕ) (last : Outcome)
    → Stops fault bytes new to before left → OnlyWhereFailed {X = X} (Err fault) last
stops_wrote X fault bytes new to before left last (is_bad front closed) = frame_wrote X fault last (of_a_frame bytes fault front)
stops_wrote X fault bytes new to before left last (no_memory is held) = rw is tt
stops_wrote X fault bytes new to before left last (read_failed is front held made) = rw is tt
stops_wrote X fault bytes new to before left last (cut_short is front held some end) = rw is tt
stops_wrote X fault bytes new to before left last (turns_spent is front held spent) = rw is tt

fault_wrote : (X : Type 0) (frames new : Stream) (from to : Option (List ℕ)) (before left : ℕ) (fault : Fault) (last : Outcome)
    → Receives frames new from to before left (Err fault) → OnlyWhereFailed {X = X} (Err fault) last
fault_wrote X (open_with held) new from to before left fault last r = stops_wrote X fault (held ++ r.bytes) new to before left last r.given
fault_wrote X shut new from to before left fault last r =
    let is : fault ≡ Closed = cc (r.0) in
    rw is tt

-- what is received tells of no write
pub received_wrote : {X : Type 0} (answer : Result X Fault) (old new : Connection) (fault : Fault) (last : Outcome) → answer ≡ Err fault → ReceivesOn old new (Err fault)
    → OnlyWhereFailed answer last
received_wrote {X} answer old new fault last is r =
    rw is (fault_wrote X old.stream new.stream old.input new.input old.left new.left fault last r)

-- ---- no read failed

-- what is sent tells of no read
pub sent_unread : {X : Type 0} (a b : Option (List ℕ)) (bytes : List ℕ) (r : Result X Fault) → Sends a b bytes r → IfErr r (λ fault. fault ≢ ReadFailed)
sent_unread a b bytes (Ok x) sends = tt
sent_unread a b bytes (Err NoMemory) sends = λ e. absurd cc
sent_unread a b bytes (Err (WriteFailed count)) sends = λ e. absurd cc
sent_unread a b bytes (Err _) sends = absurd sends

other_unread : (X : Type 0) (fault : Fault) (last : Bool) → fault ≢ ReadFailed → OnlyWhereReadFailed {X = X} (Err fault) last
other_unread X ReadFailed last other = absurd (other refl)
other_unread X _ last other = tt

pub unread : {X : Type 0} (answer : Result X Fault) (fault : Fault) (last : Bool) → answer ≡ Err fault → fault ≢ ReadFailed → OnlyWhereReadFailed answer last
unread {X} answer fault last is other = rw is (other_unread X fault last other)
