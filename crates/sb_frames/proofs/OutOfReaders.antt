-- Messages out of a reader.
use Rattle.std.proofs.Common.{◌≡◌, ◌≢◌, ℕ, ◌+◌, ◌*◌, ◌<◌, ◌≤◌, true, false, List, [], ◌∷◌, ◌++◌, length, take, drop, Option, Some, None, Result, Ok, Err, refl, sym, ap, subst, ◌∙◌, ◌⊎◌, inl, inr, Bool, if◌then◌else◌, append_assoc, arith, length-append}
use Rattle.std.proofs.lemmas.List.{append-nil, nil_from_length, take-append-le, length-take-le}
use Rattle.std.proofs.Math.Seq.{take-append-add, take-append_seam}
use Rattle.std.specs.Result.{result_unwrap_or}
use Rattle.std.proofs.KnownBytes.{Consumes-nil, Consumes-trans, Consumes-kept, Keeps-refl}
use Rattle.std.specs.Io.KnownBytes.{Keeps, Consumes}
use Rattle.sb_types.specs.declared.fault.Fault.{Fault}
use Rattle.sb_types.specs.declared.fault.Fault.TheVariants.{Closed, ReadFailed, Truncated}
use Rattle.sb_codec.specs.declared.message.Message.{Message}
use Rattle.sb_frames.specs.declared.frames.TheConstants.{READ_LENGTH}
use Rattle.sb_frames.specs.Frames.{frame, short, front_of}
use Rattle.sb_frames.specs.Streams.{Stream, open_with, shut, Takes, TakesNext, Hands}
use Rattle.sb_frames.specs.Receiving.{is_frame_fault, OnlyWhereReadFailed, is_shut, held_of, end_of_held, end_of, GivesBytes, Misses, Fills, Stops, is_bad, no_memory, read_failed, cut_short, turns_spent, ReceivesOpen, Receives}
use Rattle.sb_frames.proofs.Fronts.{of_a_frame}
use Rattle.sb_frames.proofs.Splitting.{within_frame}

-- what stands before each look at what is held
pub record Reading (held : List ℕ) (now : Stream) (from to : Option (List ℕ)) (before left : ℕ) : Type 0 where
  pub bytes : List ℕ
  pub consumed : Consumes from to bytes
  pub stands : now ≡ open_with (held ++ bytes)
  pub needed : (front_of held ≡ short) ⊎ ((bytes ≡ []) × (left ≡ before))
  pub fewer : left ≤ before
  pub room : length bytes + READ_LENGTH * left ≤ READ_LENGTH * before

pub reading_begins : (old : Stream) (from : Option (List ℕ)) (before : ℕ) → is_shut old ≡ false → Reading (held_of old) old from from before before
reading_begins (open_with held) from before e = record {
  bytes = [];
  consumed = Consumes-nil from;
  stands = ap open_with (sym (append-nil held));
  needed = inr (refl, refl);
  fewer = omega arith;
  room = omega arith;
}
reading_begins shut from before e = absurd cc

-- nothing stands in front, and more bytes come
pub reading_on : (held : List ℕ) (now mid new : Stream) (from via to : Option (List ℕ)) (before left less count : ℕ) → Reading held now from via before left
    → TakesNext now (Ok None) mid → Fills (held_of mid) via to left less (Ok count) new → Reading held new from to before less
reading_on held now mid new from via to before left less count r none fills =
    let next : Takes (held ++ r.bytes) (Ok None) mid = subst (λ s. TakesNext s (Ok None) mid) r.stands none in
    let all : held_of mid ≡ held ++ r.bytes = ap held_of next.1 in
    record {
      bytes = r.bytes ++ fills.bytes;
      consumed = Consumes-trans from via to r.bytes fills.bytes r.consumed fills.consumed;
      stands = fills.stands ∙ ap (λ (x : List ℕ). open_with (x ++ fills.bytes)) all ∙ ap open_with (append_assoc held r.bytes fills.bytes);
      needed = inl (elim r.needed [
        | inl front ↦ front
        | inr nothing ↦ ap front_of (sym (append-nil held)) ∙ ap (λ (x : List ℕ). front_of (held ++ x)) (sym nothing.0) ∙ next.0
      ]);
      fewer = omega (arith, r.fewer, fills.read);
      room = omega (arith, r.room, fills.read, fills.most, fills.filled, length-append r.bytes fills.bytes);
    }

pub reading_hands : (held : List ℕ) (now new : Stream) (from to : Option (List ℕ)) (before left : ℕ) (m : Message) → Reading held now from to before left
    → TakesNext now (Ok (Some m)) new → ReceivesOpen held new from to before left (Ok (Some m))
reading_hands held now new from to before left m r hands =
    record { bytes = r.bytes; consumed = r.consumed; needed = r.needed; fewer = r.fewer; given = subst (λ s. TakesNext s (Ok (Some m)) new) r.stands hands }

pub reading_goes : (held : List ℕ) (now new : Stream) (from to : Option (List ℕ)) (before left : ℕ) (m : Message) → Reading held now from to before left
    → TakesNext now (Ok (Some m)) new → length (held_of new) + READ_LENGTH * left < length held + READ_LENGTH * before
reading_goes held now new from to before left m r hands =
    let h : Hands (held ++ r.bytes) m new = subst (λ s. TakesNext s (Ok (Some m)) new) r.stands hands in
    let some = (within_frame m h.leads.limits).0 in
    let rest : held_of new ≡ h.rest = ap held_of h.left in
    let all : length held + length r.bytes ≡ length (frame m) + length h.rest = sym (length-append held r.bytes) ∙ ap length h.leads.laid ∙ length-append (frame m) h.rest in
    rw rest (omega (arith, r.room, some, all))

pub reading_refused : (held : List ℕ) (now new : Stream) (from to : Option (List ℕ)) (before left : ℕ) (fault : Fault) → Reading held now from to before left
    → TakesNext now (Err fault) new → ReceivesOpen held new from to before left (Err fault)
reading_refused held now new from to before left fault r refused =
    let next : Takes (held ++ r.bytes) (Err fault) new = subst (λ s. TakesNext s (Err fault) new) r.stands refused in
    record {
      bytes = r.bytes;
      consumed = r.consumed;
      needed = r.needed;
      fewer = r.fewer;
      given = elim next [
        | inl front ↦ is_bad front.0 front.1
        | inr memory ↦ no_memory memory.0 memory.2
      ];
    }

stopped : (fault : Fault) (bytes : List ℕ) (new : Stream) (to : Option (List ℕ)) (before left less : ℕ) → front_of bytes ≡ short → new ≡ open_with bytes → left ≤ before
    → Misses fault left less → Stops fault bytes new to before less
stopped fault bytes new to before left less none stands fewer misses =
    elim misses [
      | inl memory ↦ no_memory memory.0 stands
      | inr other ↦ elim other [
        | inl read ↦ read_failed read.0 none stands (omega (arith, read.1, fewer))
        | inr spent ↦ turns_spent spent.0 none stands spent.1
      ]
    ]

missed_less : (fault : Fault) (left less : ℕ) → Misses fault left less → less ≤ left
missed_less fault left less misses =
    elim misses [
      | inl memory ↦ omega (arith, memory.1)
      | inr other ↦ elim other [ inl read ↦ omega (arith, read.1) | inr spent ↦ spent.2 ]
    ]

-- nothing stands in front, and no more bytes come
pub reading_missed : (held : List ℕ) (now mid new : Stream) (from via to : Option (List ℕ)) (before left less : ℕ) (fault : Fault) → Reading held now from via before left
    → TakesNext now (Ok None) mid → Fills (held_of mid) via to left less (Err fault) new → ReceivesOpen held new from to before less (Err fault)
reading_missed held now mid new from via to before left less fault r none fills =
    let next : Takes (held ++ r.bytes) (Ok None) mid = subst (λ s. TakesNext s (Ok None) mid) r.stands none in
    let all : held_of mid ≡ held ++ r.bytes = ap held_of next.1 in
    record {
      bytes = r.bytes;
      consumed = Consumes-kept from via to r.bytes r.consumed fills.1;
      needed = inl (elim r.needed [
        | inl front ↦ front
        | inr nothing ↦ ap front_of (sym (append-nil held)) ∙ ap (λ (x : List ℕ). front_of (held ++ x)) (sym nothing.0) ∙ next.0
      ]);
      fewer = omega (arith, r.fewer, missed_less fault left less fills.2);
      given = stopped fault (held ++ r.bytes) new to before left less next.0 (fills.0 ∙ ap open_with all) r.fewer fills.2;
    }

some_left : (bytes : List ℕ) (fault : Fault) → end_of_held bytes ≡ Err fault → (fault ≡ Truncated) × (bytes ≢ [])
some_left [] fault e = absurd cc
some_left (byte ∷ bytes) fault e = (cc, λ none. absurd cc)

none_left : (bytes : List ℕ) → end_of_held bytes ≡ Ok tt → bytes ≡ []
none_left [] e = refl
none_left (byte ∷ bytes) e = absurd cc

-- the reader is at its end
pub reading_ends : (held : List ℕ) (now mid new : Stream) (from via to : Option (List ℕ)) (before left less : ℕ) → Reading held now from via before left
    → TakesNext now (Ok None) mid → Fills (held_of mid) via to left less (Ok 0) new → end_of new ≡ Ok tt → ReceivesOpen held new from to before less (Ok None)
reading_ends held now mid new from via to before left less r none fills ended =
    let on = reading_on held now mid new from via to before left less 0 r none fills in
    let nothing : held ++ on.bytes ≡ [] = none_left _ (ap end_of (sym on.stands) ∙ ended) in
    record { bytes = on.bytes; consumed = on.consumed; needed = on.needed; fewer = on.fewer; given = (nothing, on.stands ∙ ap open_with nothing, fills.end refl) }

pub reading_cut : (held : List ℕ) (now mid new : Stream) (from via to : Option (List ℕ)) (before left less : ℕ) (fault : Fault) → Reading held now from via before left
    → TakesNext now (Ok None) mid → Fills (held_of mid) via to left less (Ok 0) new → end_of new ≡ Err fault → ReceivesOpen held new from to before less (Err fault)
unfolding reading_on
reading_cut held now mid new from via to before left less fault r none fills ended =
    let on = reading_on held now mid new from via to before left less 0 r none fills in
    let some = some_left _ fault (ap end_of (sym on.stands) ∙ ended) in
    let next : Takes (held ++ r.bytes) (Ok None) mid = subst (λ s. TakesNext s (Ok None) mid) r.stands none in
    let same : held ++ on.bytes ≡ held ++ r.bytes = ap (λ (x : List ℕ). held ++ (r.bytes ++ x)) (nil_from_length fills.bytes fills.filled) ∙ ap (λ (x : List ℕ). held ++ x) (append-nil
    r.bytes) in
    record { bytes = on.bytes; consumed = on.consumed; needed = on.needed; fewer = on.fewer; given = cut_short some.0 (ap front_of same ∙ next.0) on.stands some.1 (fills.end refl) }

-- ---- no read failed

frame_unread : (X : Type 0) (fault : Fault) (last : Bool) → is_frame_fault fault ≡ true → OnlyWhereReadFailed {X = X} (Err fault) last
frame_unread X ReadFailed last is = absurd cc
frame_unread X _ last is = tt

-- what is held and can't be handed out tells of no read
pub taken_unread : (X : Type 0) (old new : Stream) (fault : Fault) (last : Bool) → TakesNext old (Err fault) new → OnlyWhereReadFailed {X = X} (Err fault) last
taken_unread X (open_with held) new fault last takes =
    elim takes [
      | inl front ↦ frame_unread X fault last (of_a_frame held fault front.0)
      | inr memory ↦ rw memory.0 tt
    ]
taken_unread X shut new fault last takes = let is : fault ≡ Closed = cc (takes.0) in rw is tt

-- nor does an end
pub ended_unread : (X : Type 0) (stream : Stream) (fault : Fault) (last : Bool) → end_of stream ≡ Err fault → OnlyWhereReadFailed {X = X} (Err fault) last
ended_unread X stream fault last e = rw (some_left (held_of stream) fault e).0 tt

pub receives_shut : (old : Stream) (from : Option (List ℕ)) (before : ℕ) → is_shut old ≡ true → Receives old old from from before before (Err Closed)
receives_shut (open_with held) from before e = absurd cc
receives_shut shut from before e = (refl, refl, Keeps-refl from, refl)

pub receives_open : (old new : Stream) (from to : Option (List ℕ)) (before left : ℕ) (result : Result (Option Message) Fault) → is_shut old ≡ false
    → ReceivesOpen (held_of old) new from to before left result → Receives old new from to before left result
receives_open (open_with held) new from to before left result e r = r
receives_open shut new from to before left result e r = absurd cc

-- ---- one read after others that gave nothing

pub kept_consumes : (a b c : Option (List ℕ)) (bytes : List ℕ) → Keeps a b → Consumes b c bytes → Consumes a c bytes
kept_consumes None b c bytes p q = tt
kept_consumes (Some x) None c bytes p q = absurd p
kept_consumes (Some x) (Some y) None bytes p q = absurd q
kept_consumes (Some x) (Some y) (Some z) bytes p q = sym p ∙ q

-- ---- a read into room behind what is held

-- what stands in front of the room, and what was read into it
pub read_in : (old all got post : List ℕ) (start n : ℕ) → start ≡ length old → take start all ≡ old → n ≤ length got → take (start + n) (take start all ++ (got ++ post)) ≡ old ++ take n got
read_in old all got post start n is front bound =
    ap (λ (x : List ℕ). take (start + n) (x ++ (got ++ post))) front ∙ ap (λ k. take (k + n) (old ++ (got ++ post))) is
    ∙ take-append-add old (got ++ post) n ∙ ap (λ (x : List ℕ). old ++ x) (take-append-le n got post bound)

abbrev pub count_in : Result ℕ Fault → ℕ
count_in (Ok n) = n
count_in (Err fault) = 0

pub within_got : (from to : Option (List ℕ)) (got : List ℕ) (before left : ℕ) (result : Result ℕ Fault) → GivesBytes from to got before left result → count_in result ≤ length got
within_got from to got before left (Ok n) gives = gives.0
within_got from to got before left (Err fault) gives = omega arith

pub fills_by : (front items : List ℕ) (from to : Option (List ℕ)) (before left : ℕ) (result : Result ℕ Fault) (got new : List ℕ) → length got ≡ READ_LENGTH
    → GivesBytes from to got before left result → new ≡ items ++ take (count_in result) got → Fills (front ++ items) from to before left result (open_with (front ++ new))
fills_by front items from to before left (Ok n) got new size gives is = record {
  bytes = take n got;
  consumed = gives.1;
  filled = length-take-le n got gives.0;
  most = omega (arith, gives.0, size);
  end = λ none. gives.2 none (omega (arith, size));
  stands = ap (λ (x : List ℕ). open_with (front ++ x)) is ∙ ap open_with (sym (append_assoc front items (take n got)));
  read = gives.3;
}
fills_by front items from to before left (Err fault) got new size gives is =
    (ap (λ (x : List ℕ). open_with (front ++ x)) (is ∙ append-nil items), gives.0, elim gives.1 [ inl read ↦ inr (inl read) | inr spent ↦ inr (inr spent) ])

pub open_view : (closed : Bool) (held : List ℕ) (now : Stream) → (if closed then shut else open_with held) ≡ now → is_shut now ≡ false → (closed ≡ false) × (held_of now ≡ held)
open_view true held now view open_now = absurd cc (ap is_shut view ∙ open_now)
open_view false held now view open_now = (refl, ap held_of (sym view))

pub same_count : (result : Result ℕ Fault) → result_unwrap_or result 0 ≡ count_in result
same_count (Ok n) = refl
same_count (Err fault) = refl

-- what was written over all of a buffer is what it has then
pub written : (old new : List ℕ) → length new ≡ length old → take (length old) (new ++ drop (length new) old) ≡ new
written old new same = ap (λ n. take n (new ++ drop (length new) old)) (sym same) ∙ take-append_seam new (drop (length new) old)
