-- A stream has one reading.
use Rattle.std.proofs.Common.{◌≡◌, ◌≢◌, ℕ, ◌+◌, ◌<◌, ◌≤◌, List, [], ◌∷◌, ◌++◌, length, take, drop, true, Some, None, Ok, Err, refl, sym, ap, subst, ◌∙◌, inl, inr, append_assoc, arith, length-append}
use Rattle.std.specs.List.{flat_map}
use Rattle.std.proofs.lemmas.Bool.{and_parts}
use Rattle.std.proofs.lemmas.List.{append-nil, take-append-drop, length-drop}
use Rattle.sb_types.specs.declared.format.TheConstants.{HEADER_LENGTH}
use Rattle.sb_types.specs.declared.limits.TheConstants.{BUDGET_MOST}
use Rattle.sb_codec.specs.declared.message.Message.{Message}
use Rattle.sb_codec.specs.Messages.{spelling, is_message}
use Rattle.sb_frames.specs.Frames.{frame, Front, short, whole, bad, front_of, Extends}
use Rattle.sb_frames.specs.Streams.{Stream, open_with, shut, Splits}
use Rattle.sb_frames.specs.Runs.{Call, feed, next, Run, bytes_fed, messages_taken, IsLeft, IsSpent, Accounts}
use Rattle.sb_frames.proofs.Fronts.{length-framed, fits_length, spelling_fits, front_frame, front_extends}

pub length-frame : (m : Message) → length (frame m) ≡ HEADER_LENGTH + length (spelling m)
unfolding frame
length-frame m = length-framed (spelling m)

pub within_frame : (m : Message) → is_message m ≡ true → (HEADER_LENGTH < length (frame m)) × (length (frame m) ≤ BUDGET_MOST)
within_frame m fits = let within = fits_length (length (spelling m)) (spelling_fits m fits) in (omega (arith, length-frame m), omega (arith, length-frame m))

-- ---- what has come of a frame

whole_parts : (m n : Message) (rest more : List ℕ) → whole m rest ≡ whole n more → (m ≡ n) × (rest ≡ more)
whole_parts m n rest more e = (cc, cc)

short_until : (front : Front) (more : List ℕ) (m : Message) → Extends front more (whole m []) → 0 < length more → front ≡ short
short_until short more m extends some = refl
short_until (whole n rest) more m extends some =
    let none : [] ≡ rest ++ more = (whole_parts m n [] (rest ++ more) extends).1 in
    absurd (omega (arith, ap length none, length-append rest more))
short_until (bad fault) more m extends some = absurd cc

pub part_short : (m : Message) (count : ℕ) → is_message m ≡ true → count < length (frame m) → front_of (take count (frame m)) ≡ short
part_short m count fits few =
    let all : take count (frame m) ++ drop count (frame m) ≡ frame m ++ [] = take-append-drop count (frame m) ∙ sym (append-nil (frame m)) in
    let read : front_of (take count (frame m) ++ drop count (frame m)) ≡ whole m [] = ap front_of all ∙ front_frame m [] fits in
    short_until (front_of (take count (frame m))) (drop count (frame m)) m (rw read at (front_extends (take count (frame m)) (drop count (frame m)))) (omega (arith, length-drop count (frame m)))

-- ---- one reading

same_first : (m n : Message) (rest more : List ℕ) → is_message m ≡ true → is_message n ≡ true → frame m ++ rest ≡ frame n ++ more → (m ≡ n) × (rest ≡ more)
same_first m n rest more fits also e = whole_parts m n rest more (sym (front_frame m rest fits) ∙ ap front_of e ∙ front_frame n more also)

pub one_reading : (stream : List ℕ) (messages others : List Message) (rest more : List ℕ) → Splits stream messages rest → Splits stream others more → (others ≡ messages) × (more ≡ rest)
one_reading stream [] [] rest more one two = (refl, sym two.whole ∙ one.whole)
one_reading stream [] (n ∷ ns) rest more one two =
    absurd (one.partial n (flat_map frame ns ++ more) (and_parts _ _ two.each).0 (sym one.whole ∙ two.whole ∙ append_assoc (frame n) (flat_map frame ns) more))
one_reading stream (m ∷ ms) [] rest more one two =
    absurd (two.partial m (flat_map frame ms ++ rest) (and_parts _ _ one.each).0 (sym two.whole ∙ one.whole ∙ append_assoc (frame m) (flat_map frame ms) rest))
one_reading stream (m ∷ ms) (n ∷ ns) rest more one two =
    let ones = and_parts _ _ one.each in
    let twos = and_parts _ _ two.each in
    let both : frame m ++ (flat_map frame ms ++ rest) ≡ frame n ++ (flat_map frame ns ++ more) =
    sym (append_assoc (frame m) (flat_map frame ms) rest) ∙ sym one.whole ∙ two.whole ∙ append_assoc (frame n) (flat_map frame ns) more in
    let first = same_first m n (flat_map frame ms ++ rest) (flat_map frame ns ++ more) ones.0 twos.0 both in
    let front : Splits (flat_map frame ms ++ rest) ms rest = record { whole = refl; each = ones.1; partial = one.partial } in
    let back : Splits (flat_map frame ms ++ rest) ns more = record { whole = first.1; each = twos.1; partial = two.partial } in
    let others = one_reading (flat_map frame ms ++ rest) ms ns rest more front back in
    (rw (others.0, first.0) refl, others.1)

-- ---- any calls

nothing_more : (calls : List Call) (new : Stream) → Run shut calls new → (new ≡ shut) × (bytes_fed calls ≡ []) × (messages_taken calls ≡ [])
nothing_more [] new run = (run, refl, refl)
nothing_more (feed piece (Ok done) ∷ calls) new run = absurd cc
nothing_more (feed piece (Err fault) ∷ calls) new run = nothing_more calls new (subst (λ s. Run s calls new) run.1.1 run.2)
nothing_more (next (Ok (Some m)) ∷ calls) new run = absurd cc
nothing_more (next (Ok None) ∷ calls) new run = absurd cc
nothing_more (next (Err fault) ∷ calls) new run = nothing_more calls new (subst (λ s. Run s calls new) run.1.1 run.2)

accounted : (held : List ℕ) (calls : List Call) (new : Stream) → Run (open_with held) calls new → Accounts (held ++ bytes_fed calls) (messages_taken calls) new
accounted held [] new run = record { rest = held; whole = append-nil held; each = refl; left = subst (IsLeft held) (sym run) refl }
accounted held (feed piece (Ok done) ∷ calls) new run =
    let more = accounted (held ++ piece) calls new (subst (λ s. Run s calls new) run.1 run.2) in
    record { rest = more.rest; whole = sym (append_assoc held piece (bytes_fed calls)) ∙ more.whole; each = more.each; left = more.left }
accounted held (feed piece (Err fault) ∷ calls) new run = accounted held calls new (subst (λ s. Run s calls new) run.1.1 run.2)
accounted held (next (Ok (Some m)) ∷ calls) new run =
    let hands = run.1 in
    let more = accounted hands.rest calls new (subst (λ s. Run s calls new) hands.left run.2) in
    record {
      rest = more.rest;
      whole = ap (λ (x : List ℕ). x ++ bytes_fed calls) hands.leads.laid ∙ append_assoc (frame m) hands.rest (bytes_fed calls) ∙ ap (λ (x : List ℕ). frame m ++ x) more.whole ∙ sym (append_assoc (frame m) (flat_map frame (messages_taken calls)) more.rest);
      each = rw (hands.leads.limits, more.each) refl;
      left = more.left;
    }
accounted held (next (Ok None) ∷ calls) new run = accounted held calls new (subst (λ s. Run s calls new) run.1.1 run.2)
accounted held (next (Err fault) ∷ calls) new run =
    elim run.1 [
      | inl front ↦
          let none = nothing_more calls new (subst (λ s. Run s calls new) front.1 run.2) in
          record { rest = held; whole = rw (none.1, none.2) (append-nil held); each = rw none.2 refl; left = subst (IsLeft held) (sym none.0) (fault, front.0) }
      | inr memory ↦ accounted held calls new (subst (λ s. Run s calls new) memory.2 run.2)
    ]

pub any_calls : (calls : List Call) (new : Stream) → Run (open_with []) calls new → Accounts (bytes_fed calls) (messages_taken calls) new
any_calls calls new run = accounted [] calls new run

not_first : (front : Front) (rest : List ℕ) → front_of rest ≡ front → ((m : Message) (more : List ℕ) → front ≢ whole m more) → (m : Message) (more : List ℕ) → is_message m ≡ true → rest ≢ frame m ++ more
not_first front rest is other m more fits e = other m more (sym is ∙ ap front_of e ∙ front_frame m more fits)

left_partial : (rest : List ℕ) (new : Stream) → IsLeft rest new → IsSpent new → (m : Message) (more : List ℕ) → is_message m ≡ true → rest ≢ frame m ++ more
left_partial rest (open_with held) left spent = not_first short rest (ap front_of (sym left) ∙ spent) (λ m more e. absurd cc)
left_partial rest shut left spent = not_first (bad left.0) rest left.1 (λ m more e. absurd cc)

pub all_taken : (calls : List Call) (new : Stream) → Run (open_with []) calls new → IsSpent new → (rest : List ℕ) × IsLeft rest new × Splits (bytes_fed calls) (messages_taken calls) rest
all_taken calls new run spent =
    let all = accounted [] calls new run in
    (all.rest, all.left, record { whole = all.whole; each = all.each; partial = left_partial all.rest new all.left spent })
