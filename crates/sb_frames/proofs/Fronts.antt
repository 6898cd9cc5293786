-- What stands at the front of bytes.
use Rattle.std.proofs.Common.{◌≡◌, ◌≢◌, ℕ, ◌+◌, ◌^◌, ◌<◌, ◌≤◌, Bool, true, false, ◌==◌, ltb, if◌then◌else◌, List, [], ◌∷◌, ◌++◌, length, take, drop, Option, Some, None, Result, Ok, Err, refl, sym, ap, subst, ◌∙◌, inl, inr, ◌⊎◌, append_assoc, arith, length-append, length-take}
use Rattle.std.specs.Int.{w32, from_be_bytes}
use Rattle.std.specs.Prelude.{ok_or, All}
use Rattle.std.specs.Option.{option_and_then}
use Rattle.std.proofs.lemmas.Bool.{and_parts, cases_lt, leb-true, le-leb, lt-ltb, le-ltb, ltb-false, eqb-true, ne_eqb}
use Rattle.std.proofs.lemmas.Bool.Decides.{nat_tests}
use Rattle.std.proofs.lemmas.Option.{some_pair_parts}
use Rattle.std.proofs.lemmas.List.{take-append-drop, take-append-le, drop-append-le, drop_at, get_or-append-add, get_or_append_left, get_or_past, nil_from_length}
use Rattle.std.proofs.lemmas.Nat.{be_bytes_4, from_be_bytes-to_be_bytes_4}
use Rattle.sb_types.specs.declared.fault.Fault.{Fault}
use Rattle.sb_types.specs.declared.fault.Fault.TheVariants.{NoMemory, UnknownKind, Malformed, BadMark, BadVersion, BadLength}
use Rattle.sb_types.specs.declared.format.TheConstants.{FRAME_MARK, FRAME_VERSION}
use Rattle.sb_types.specs.declared.limits.TheConstants.{PAYLOAD_MOST}
use Rattle.sb_codec.specs.declared.message.Message.{Message}
use Rattle.sb_codec.specs.Spelling.{number}
use Rattle.sb_codec.specs.Fields.{Field, byte_field, number_field, bytes_field, whole_value as whole_field}
use Rattle.sb_codec.specs.Messages.{spelling, is_message, Spells, TakesMemory, is_kind, fault_of, message_field, reading}
use Rattle.sb_codec.proofs.Taken.{AreBytes, IsWide, byte_takes, bytes_takes, number_takes}
use Rattle.sb_codec.proofs.Again.{bytes_again, number_again}
use Rattle.sb_codec.proofs.Laws.{is_spelled, is_found, is_read}
use Rattle.sb_frames.specs.Frames.{frame_of_payload, frame, is_payload_length, IsFramed, HasPayload, Leads, Extends, Front, short, whole, bad, front_after_field, front_by, front_of_payload, front_after_length, front_after_version, front_after_mark, front_of}
use Rattle.sb_frames.specs.Receiving.{is_frame_fault}

wide32 : IsWide w32 (2 ^ 32)
wide32 = record {
  len = λ n. refl;
  below = λ bytes are. omega (arith, are 0, are 1, are 2, are 3);
  back = λ bytes len are. be_bytes_4 bytes _ len are refl;
  again = from_be_bytes-to_be_bytes_4;
}

pub fits_length : (count : ℕ) → is_payload_length count ≡ true → (1 ≤ count) × (count ≤ 65530)
fits_length count fits = let parts = and_parts _ _ fits in (leb-true _ _ parts.0, leb-true _ _ parts.1)

-- ---- a payload behind its header

pub front_framed : (payload rest : List ℕ) → is_payload_length (length payload) ≡ true → front_of (frame_of_payload payload ++ rest) ≡ front_of_payload payload rest
unfolding frame_of_payload front_of byte_field
front_framed payload rest fits =
    let short : length payload < 2 ^ 32 = omega (arith, (fits_length (length payload) fits).1) in
    let count : number_field w32 (number w32 (length payload) ++ payload ++ rest) ≡ Some (length payload, payload ++ rest) =
    rw append_assoc ((number_again wide32 (length payload) short).read (payload ++ rest)) in
    let all : bytes_field (length payload) (payload ++ rest) ≡ Some (payload, rest) = (bytes_again payload (length payload) refl).read rest in
    rw (count, fits, all) refl

reading_nothing : reading [] ≡ Err (UnknownKind 0)
unfolding reading message_field byte_field
reading_nothing = refl

pub length_fits : (count : ℕ) → 1 ≤ count → count ≤ PAYLOAD_MOST → is_payload_length count ≡ true
length_fits count some most = rw (le-leb 1 count some, le-leb count PAYLOAD_MOST most) refl

length_out : (count : ℕ) → (count ≡ 0) ⊎ ((count ≢ 0) × (PAYLOAD_MOST < count)) → is_payload_length count ≡ false
length_out count out = grind (arith, nat_tests)

pub spelling_fits : (m : Message) → is_message m ≡ true → is_payload_length (length (spelling m)) ≡ true
spelling_fits m fits =
    let spells : Spells (spelling m) m = is_spelled (spelling m) m fits refl in
    let some : 1 ≤ length (spelling m) =
    elim (cases_lt 0 (length (spelling m))) [
      | inl lt ↦ omega arith
      | inr le ↦
          let none : spelling m ≡ [] = nil_from_length (spelling m) (omega arith) in
          let read : Err (UnknownKind 0) ≡ Ok m = sym reading_nothing ∙ ap reading (sym none) ∙ is_read (spelling m) m spells in
          absurd cc
    ] in
    length_fits (length (spelling m)) some spells.most

pub front_frame : (m : Message) (rest : List ℕ) → is_message m ≡ true → front_of (frame m ++ rest) ≡ whole m rest
unfolding frame
front_frame m rest fits =
    let read : reading (spelling m) ≡ Ok m = is_read (spelling m) m (is_spelled (spelling m) m fits refl) in
    front_framed (spelling m) rest (spelling_fits m fits) ∙ ap (λ r. front_by r rest) read

-- ---- the stages, one by one

pub before_mark : (bytes : List ℕ) → length bytes ≡ 0 → front_of bytes ≡ short
unfolding front_of byte_field
before_mark bytes none = rw (nil_from_length bytes none) refl

pub wrong_mark : (bytes more : List ℕ) (mark : ℕ) → bytes ≡ mark ∷ more → mark ≢ FRAME_MARK → front_of bytes ≡ bad BadMark
unfolding front_of byte_field
wrong_mark bytes more mark e ne = rw (e, ne_eqb mark FRAME_MARK ne) refl

pub before_version : (bytes more : List ℕ) → bytes ≡ FRAME_MARK ∷ more → length more ≡ 0 → front_of bytes ≡ short
unfolding front_of byte_field
before_version bytes more e none = rw (e, nil_from_length more none) refl

pub wrong_version : (bytes more : List ℕ) (version : ℕ) → bytes ≡ FRAME_MARK ∷ version ∷ more → version ≢ FRAME_VERSION → front_of bytes ≡ bad BadVersion
unfolding front_of byte_field
wrong_version bytes more version e ne = rw (e, ne_eqb version FRAME_VERSION ne) refl

pub before_length : (bytes more : List ℕ) → bytes ≡ FRAME_MARK ∷ FRAME_VERSION ∷ more → length more < 4 → front_of bytes ≡ short
unfolding front_of byte_field number_field bytes_field
before_length bytes more e few = rw (e, lt-ltb (length more) 4 few) refl

-- the mark and the version are there, and behind them the four bytes of a length
pub record HasLength (bytes count rest : List ℕ) : Type 0 where
  pub laid : bytes ≡ FRAME_MARK ∷ FRAME_VERSION ∷ (count ++ rest)
  pub four : length count ≡ 4

pub has_length : (bytes more count rest : List ℕ) → bytes ≡ FRAME_MARK ∷ FRAME_VERSION ∷ more → count ≡ take 4 more → rest ≡ drop 4 more → length rest + 4 ≡ length more → HasLength bytes count rest
has_length bytes more count rest e front back len = record {
  laid = e ∙ ap (λ (x : List ℕ). FRAME_MARK ∷ FRAME_VERSION ∷ x) (sym (take-append-drop 4 more) ∙ sym (rw (front, back) refl));
  four = rw front (omega (arith, length-take 4 more));
}

at_length : (bytes count rest : List ℕ) (n : ℕ) → HasLength bytes count rest → n ≡ from_be_bytes w32 count → front_of bytes ≡ front_after_length n rest
unfolding front_of byte_field number_field
at_length bytes count rest n has is = rw (has.laid, (bytes_again count 4 has.four).read rest, is) refl

pub wrong_length : (bytes count rest : List ℕ) (n : ℕ) → HasLength bytes count rest → n ≡ from_be_bytes w32 count → (n ≡ 0) ⊎ ((n ≢ 0) × (PAYLOAD_MOST < n)) → front_of bytes ≡ bad BadLength
wrong_length bytes count rest n has is out = rw (at_length bytes count rest n has is, length_out n out) refl

pub before_payload : (bytes count rest : List ℕ) (n : ℕ) → HasLength bytes count rest → n ≡ from_be_bytes w32 count → 1 ≤ n → n ≤ PAYLOAD_MOST → length rest < n → front_of bytes ≡ short
unfolding bytes_field
before_payload bytes count rest n has is some most few = rw (at_length bytes count rest n has is, length_fits n some most, lt-ltb (length rest) n few) refl

behind : (bytes front rest : List ℕ) → bytes ≡ front ++ rest → AreBytes bytes → AreBytes rest
behind bytes front rest e are i = rw (← get_or-append-add front rest i 0, ← e) (are (length front + i))

in_front : (bytes front rest : List ℕ) → bytes ≡ front ++ rest → AreBytes bytes → AreBytes front
in_front bytes front rest e are i =
    elim (cases_lt i (length front)) [
      | inl lt ↦ rw (← get_or_append_left front rest 0 i lt, ← e) (are i)
      | inr le ↦ rw (get_or_past front i 0 le) (omega arith)
    ]

pub length-framed : (payload : List ℕ) → length (frame_of_payload payload) ≡ 6 + length payload
unfolding frame_of_payload number
length-framed payload = omega (arith, length-append (number w32 (length payload)) payload, wide32.len (length payload))

-- the rest of what is framed is what stands behind the frame
pub framed_rest : (bytes payload rest : List ℕ) → IsFramed bytes payload rest → drop (6 + length payload) bytes ≡ rest
framed_rest bytes payload rest is = rw is.laid (drop_at (frame_of_payload payload) rest (6 + length payload) (length-framed payload))

pub has_payload : (bytes count body payload : List ℕ) (n : ℕ) → AreBytes bytes → HasLength bytes count body → n ≡ from_be_bytes w32 count → payload ≡ take n body → length payload ≡ n → 1 ≤ n → n ≤ PAYLOAD_MOST
    → IsFramed bytes payload (drop (6 + length payload) bytes)
unfolding frame_of_payload number
has_payload bytes count body payload n are has is front len some most =
    let rest = drop n body in
    let parts : payload ++ rest ≡ body = rw front (take-append-drop n body) in
    let few : AreBytes count = in_front _ count body refl (behind bytes (FRAME_MARK ∷ FRAME_VERSION ∷ []) (count ++ body) has.laid are) in
    let same : number w32 (length payload) ≡ count = be_bytes_4 count (length payload) has.four few (len ∙ is) in
    let laid : frame_of_payload payload ++ rest ≡ FRAME_MARK ∷ FRAME_VERSION ∷ (count ++ body) =
    ap (λ (x : List ℕ). FRAME_MARK ∷ FRAME_VERSION ∷ (x ++ payload ++ rest)) same ∙ ap (λ (x : List ℕ). FRAME_MARK ∷ FRAME_VERSION ∷ x) (append_assoc count payload rest ∙ ap (λ (x : List ℕ). count ++ x) parts) in
    let framed : IsFramed bytes payload rest = record { limits = rw len (length_fits n some most); laid = has.laid ∙ sym laid } in
    subst (IsFramed bytes payload) (sym (framed_rest bytes payload rest framed)) framed

-- ---- what is whole is a frame

once_whole : {A : Type 0} (read : Option (A × List ℕ)) (next : A → List ℕ → Front) (m : Message) (rest : List ℕ) → front_after_field read next ≡ whole m rest
    → (x : A) × (more : List ℕ) × (read ≡ Some (x, more)) × (next x more ≡ whole m rest)
once_whole None next m rest e = absurd cc
once_whole (Some x) next m rest e = (x.0, x.1, refl, e)

chosen_whole : (b : Bool) (front : Front) (fault : Fault) (m : Message) (rest : List ℕ) → (if b then front else bad fault) ≡ whole m rest → (b ≡ true) × (front ≡ whole m rest)
chosen_whole true front fault m rest e = (refl, e)
chosen_whole false front fault m rest e = absurd cc

read_whole : (r : Result Message Fault) (rest : List ℕ) (m : Message) (more : List ℕ) → front_by r rest ≡ whole m more → (r ≡ Ok m) × (rest ≡ more)
read_whole (Ok x) rest m more e = (cc, cc)
read_whole (Err fault) rest m more e = absurd cc

whole_payload : (count : ℕ) (bytes : List ℕ) (m : Message) (rest : List ℕ) → AreBytes bytes → front_after_field (bytes_field count bytes) front_of_payload ≡ whole m rest
    → (is_message m ≡ true) × (length (spelling m) ≡ count) × (bytes ≡ spelling m ++ rest)
whole_payload count bytes m rest are e =
    let one = once_whole (bytes_field count bytes) front_of_payload m rest e in
    let read = read_whole (reading one.0) one.1 m rest one.3 in
    let cut = (bytes_takes count).parts bytes one.0 one.1 are one.2 in
    let spells = is_found one.0 m cut.0.1 read.0 in
    (spells.limits, sym (ap length spells.bytes) ∙ cut.0.0, cut.1 ∙ rw (spells.bytes, read.1) refl)

whole_length : (bytes : List ℕ) (m : Message) (rest : List ℕ) → AreBytes bytes → front_after_field (number_field w32 bytes) front_after_length ≡ whole m rest
    → (is_message m ≡ true) × (bytes ≡ number w32 (length (spelling m)) ++ spelling m ++ rest)
whole_length bytes m rest are e =
    let one = once_whole (number_field w32 bytes) front_after_length m rest e in
    let fits = chosen_whole (is_payload_length one.0) (front_after_field (bytes_field one.0 one.1) front_of_payload) BadLength m rest one.3 in
    let cut = ((number_takes wide32).parts bytes one.0 one.1 are one.2).1 in
    let back = whole_payload one.0 one.1 m rest (behind bytes (number w32 one.0) one.1 cut are) fits.1 in
    (back.0, cut ∙ ap (λ (x : List ℕ). number w32 one.0 ++ x) back.2 ∙ sym (append_assoc (number w32 one.0) (spelling m) rest) ∙ ap (λ n. number w32 n ++ spelling m ++ rest) (sym back.1))

whole_version : (bytes : List ℕ) (m : Message) (rest : List ℕ) → AreBytes bytes → front_after_field (byte_field bytes) front_after_version ≡ whole m rest
    → (is_message m ≡ true) × (bytes ≡ FRAME_VERSION ∷ (number w32 (length (spelling m)) ++ spelling m ++ rest))
whole_version bytes m rest are e =
    let one = once_whole (byte_field bytes) front_after_version m rest e in
    let fits = chosen_whole (one.0 == FRAME_VERSION) (front_after_field (number_field w32 one.1) front_after_length) BadVersion m rest one.3 in
    let cut = (byte_takes.parts bytes one.0 one.1 are one.2).1 in
    let back = whole_length one.1 m rest (behind bytes (one.0 ∷ []) one.1 cut are) fits.1 in
    (back.0, cut ∙ ap (λ n. n ∷ one.1) (eqb-true one.0 FRAME_VERSION fits.0) ∙ ap (λ (x : List ℕ). FRAME_VERSION ∷ x) back.1)

pub whole_frame : (bytes : List ℕ) (m : Message) (rest : List ℕ) → AreBytes bytes → front_of bytes ≡ whole m rest → Leads bytes m rest
unfolding front_of frame frame_of_payload
whole_frame bytes m rest are e =
    let one = once_whole (byte_field bytes) front_after_mark m rest e in
    let fits = chosen_whole (one.0 == FRAME_MARK) (front_after_field (byte_field one.1) front_after_version) BadMark m rest one.3 in
    let cut = (byte_takes.parts bytes one.0 one.1 are one.2).1 in
    let back = whole_version one.1 m rest (behind bytes (one.0 ∷ []) one.1 cut are) fits.1 in
    record { limits = back.0; laid = cut ∙ ap (λ n. n ∷ one.1) (eqb-true one.0 FRAME_MARK fits.0) ∙ ap (λ (x : List ℕ). FRAME_MARK ∷ x) back.1 }

pub are_bytes : (bytes : List ℕ) → All (λ byte. byte < 256) bytes → AreBytes bytes
are_bytes bytes all i =
    elim (cases_lt i (length bytes)) [
      | inl lt ↦ all i 0 lt
      | inr le ↦ rw (get_or_past bytes i 0 le) (omega arith)
    ]

-- ---- a payload that was read, or refused

pub leads : (bytes payload rest : List ℕ) (m : Message) → IsFramed bytes payload rest → Spells payload m → Leads bytes m rest
unfolding frame
leads bytes payload rest m is spells = record { limits = spells.limits; laid = is.laid ∙ ap (λ p. frame_of_payload p ++ rest) spells.bytes }

pub within_bytes : (bytes payload rest : List ℕ) → IsFramed bytes payload rest → 6 + length payload ≤ length bytes
within_bytes bytes payload rest is = omega (arith, ap length is.laid, length-append (frame_of_payload payload) rest, length-framed payload)

memory_or_not : (fault : Fault) → (fault ≡ NoMemory) ⊎ (fault ≢ NoMemory)
memory_or_not NoMemory = inl refl
memory_or_not fault = inr (λ e. absurd cc)

abbrev pub refusal : Fault → Result Message Fault
refusal fault = Err fault

pub refused : (bytes payload rest : List ℕ) (fault : Fault) → IsFramed bytes payload rest → (fault ≢ NoMemory → reading payload ≡ Err fault) → (refusal fault ≡ refusal NoMemory → TakesMemory payload) → (front_of bytes ≡ bad fault) ⊎ ((fault ≡ NoMemory) × HasPayload bytes)
refused bytes payload rest fault is read memory =
    elim (memory_or_not fault) [
      | inl same ↦ inr (same, (payload, rest, is, memory (ap refusal same)))
      | inr other ↦ inl (ap front_of is.laid ∙ front_framed payload rest is.limits ∙ ap (λ r. front_by r rest) (read other))
    ]

-- ---- a front is bad for a fault of a frame alone

abbrev IsFault : Front → Type 0
IsFault (bad fault) = is_frame_fault fault ≡ true
IsFault short = Unit {0}
IsFault (whole m rest) = Unit {0}

once_known : {A : Type 0} (read : Option (A × List ℕ)) (next : A → List ℕ → Front) → ((x : A) (more : List ℕ) → IsFault (next x more)) → IsFault (front_after_field read next)
once_known None next each = tt
once_known (Some x) next each = each x.0 x.1

chosen_known : (b : Bool) (front : Front) (fault : Fault) → IsFault front → is_frame_fault fault ≡ true → IsFault (if b then front else bad fault)
chosen_known true front fault known is = known
chosen_known false front fault known is = is

fault_known : (payload : List ℕ) → is_frame_fault (fault_of payload) ≡ true
fault_known [] = refl
fault_known (kind ∷ body) = kind_known (is_kind kind) kind where
  kind_known : (b : Bool) (kind : ℕ) → is_frame_fault (if b then Malformed kind else UnknownKind kind) ≡ true
  kind_known true kind = refl
  kind_known false kind = refl

reading_known : (found : Option Message) (payload rest : List ℕ) → IsFault (front_by (ok_or found (fault_of payload)) rest)
reading_known None payload rest = fault_known payload
reading_known (Some m) payload rest = tt

payload_known : (payload rest : List ℕ) → IsFault (front_of_payload payload rest)
unfolding reading
payload_known payload rest = reading_known (whole_field message_field payload) payload rest

front_known : (bytes : List ℕ) → IsFault (front_of bytes)
unfolding front_of
front_known bytes =
    once_known (byte_field bytes) front_after_mark (λ mark bytes. chosen_known (mark == FRAME_MARK) _ BadMark
    (once_known (byte_field bytes) front_after_version (λ version bytes. chosen_known (version == FRAME_VERSION) _ BadVersion
    (once_known (number_field w32 bytes) front_after_length (λ count bytes. chosen_known (is_payload_length count) _ BadLength
    (once_known (bytes_field count bytes) front_of_payload payload_known) refl)) refl)) refl)

pub of_a_frame : (bytes : List ℕ) (fault : Fault) → front_of bytes ≡ bad fault → is_frame_fault fault ≡ true
of_a_frame bytes fault e = subst IsFault e (front_known bytes)

pub not_for_memory : (bytes : List ℕ) (fault : Fault) → front_of bytes ≡ bad fault → fault ≢ NoMemory
not_for_memory bytes fault e same =
    let is : is_frame_fault NoMemory ≡ true = subst (λ f. is_frame_fault f ≡ true) same (of_a_frame bytes fault e) in
    absurd cc

-- ---- more bytes change no verdict

not_none : {A : Type 0} (b : Bool) (x y : A) (rest others : List ℕ) → if◌then◌else◌ {A = Option (A × List ℕ)} b None (Some (x, rest)) ≡ Some (y, others) → (b ≡ false) × (x ≡ y) × (rest ≡ others)
not_none true x y rest others e = absurd cc
not_none false x y rest others e = let same = some_pair_parts x y rest others e in (refl, same.0, same.1)

some_parts : (read : Option (List ℕ × List ℕ)) (n : ℕ) (rest : List ℕ) → option_and_then {U = ℕ × List ℕ} (λ x. Some (from_be_bytes w32 x.0, x.1)) read ≡ Some (n, rest) → (x : List ℕ) × (read ≡ Some (x, rest)) × (from_be_bytes w32 x ≡ n)
some_parts None n rest e = absurd cc
some_parts (Some x) n rest e = let same = some_pair_parts (from_be_bytes w32 x.0) n x.1 rest e in (x.0, rw (← same.1) refl, same.0)

record Stays {A : Type 0} (field : Field A) : Type 0 where
  pub more : (bytes : List ℕ) (x : A) (rest more : List ℕ) → field bytes ≡ Some (x, rest) → field (bytes ++ more) ≡ Some (x, rest ++ more)

byte_stays : Stays byte_field
unfolding byte_field
byte_stays = record {
  more = λ bytes x rest more e.
      elim bytes as (λ bytes. byte_field bytes ≡ Some (x, rest) → byte_field (bytes ++ more) ≡ Some (x, rest ++ more)) [
        | [] ↦ λ e. absurd cc
        | byte ∷ others ↦ λ e. let same = some_pair_parts byte x others rest e in rw (same.0, same.1) refl
      ] e;
}

bytes_stay : (count : ℕ) → Stays (bytes_field count)
unfolding bytes_field
bytes_stay count = record {
  more = λ bytes x rest more e.
      let cut = not_none (ltb (length bytes) count) (take count bytes) x (drop count bytes) rest e in
      let long : count ≤ length bytes = ltb-false (length bytes) count cut.0 in
      let still : ltb (length (bytes ++ more)) count ≡ false = le-ltb (length (bytes ++ more)) count (omega (arith, length-append bytes more)) in
      rw (still, take-append-le count bytes more long, drop-append-le count bytes more long, cut.1, cut.2) refl;
}

number_stays : Stays (number_field w32)
unfolding number_field
number_stays = record {
  more = λ bytes x rest more e.
      let found = some_parts (bytes_field 4 bytes) x rest e in
      rw ((bytes_stay 4).more bytes found.0 rest more found.1, found.2) refl;
}

once_extends : {A : Type 0} {field : Field A} (bytes more : List ℕ) (next : A → List ℕ → Front) → Stays field → ((x : A) (rest : List ℕ) → Extends (next x rest) more (next x (rest ++ more)))
    → Extends (front_after_field (field bytes) next) more (front_after_field (field (bytes ++ more)) next)
once_extends {A} {field} bytes more next stays each = at (field bytes) refl where
  at : (read : Option (A × List ℕ)) → field bytes ≡ read → Extends (front_after_field read next) more (front_after_field (field (bytes ++ more)) next)
  at None e = tt
  at (Some x) e = rw (stays.more bytes x.0 x.1 more e) (each x.0 x.1)

chosen_extends : (b : Bool) (one two : Front) (fault : Fault) (more : List ℕ) → Extends one more two → Extends (if b then one else bad fault) more (if b then two else bad fault)
chosen_extends true one two fault more h = h
chosen_extends false one two fault more h = refl

read_extends : (r : Result Message Fault) (rest more : List ℕ) → Extends (front_by r rest) more (front_by r (rest ++ more))
read_extends (Ok m) rest more = refl
read_extends (Err fault) rest more = refl

pub front_extends : (bytes more : List ℕ) → Extends (front_of bytes) more (front_of (bytes ++ more))
unfolding front_of
front_extends bytes more =
    once_extends bytes more front_after_mark byte_stays (λ mark bytes. chosen_extends (mark == FRAME_MARK) _ _ BadMark more
    (once_extends bytes more front_after_version byte_stays (λ version bytes. chosen_extends (version == FRAME_VERSION) _ _ BadVersion more
    (once_extends bytes more front_after_length number_stays (λ count bytes. chosen_extends (is_payload_length count) _ _ BadLength more
    (once_extends bytes more front_of_payload (bytes_stay count) (λ payload rest. read_extends (reading payload) rest more)))))))
