-- A payload is read as a message exactly where it spells it.
use Rattle.std.proofs.Common.{◌≡◌, ℕ, ◌≤◌, Bool, true, false, ◌==◌, if◌then◌else◌, List, [], ◌∷◌, length, Option, Some, None, Result, Ok, Err, refl, sym, ap, ◌∙◌, arith}
use Rattle.std.specs.Prelude.{ok_or, IfOk}
use Rattle.std.specs.Option.{option_and_then}
use Rattle.std.proofs.lemmas.Bool.{eqb-true}
use Rattle.std.proofs.lemmas.List.{append-nil, nil_from_length}
use Rattle.std.proofs.lemmas.Option.{cond_some}
use Rattle.sb_types.specs.declared.fault.Fault.{Fault}
use Rattle.sb_types.specs.declared.fault.Fault.TheVariants.{UnknownKind, Malformed}
use Rattle.sb_types.specs.Faults.{Gives}
use Rattle.sb_codec.specs.declared.message.Message.{Message}
use Rattle.sb_codec.specs.declared.message.Message.TheVariants.{Hello, Digest, Delta, Bye, Ask, Rows, Put, Done, Refused, AskStatus, NodeStatus, AskChange, Notice, AskAges, Ages}
use Rattle.sb_types.specs.declared.format.TheConstants.{KIND_HELLO, KIND_DIGEST, KIND_DELTA, KIND_BYE, KIND_ASK, KIND_ROWS, KIND_PUT, KIND_DONE, KIND_REFUSED, KIND_ASK_STATUS, KIND_NODE_STATUS, KIND_ASK_CHANGE, KIND_NOTICE, KIND_ASK_AGES, KIND_AGES}
use Rattle.sb_codec.specs.Fields.{AreBytes, byte_field, case_field, whole_value}
use Rattle.sb_codec.specs.Messages.{spelling, is_message, Spells, IsSole, is_kind, fault_of, message_cases, message_field, reading}
use Rattle.sb_codec.proofs.Taken.{Takes, tagged_takes, made_case, given_case}
use Rattle.sb_codec.proofs.Again.{Again, given_again, made_again, tagged_again}
use Rattle.sb_codec.proofs.Parts.{delta_takes, delta_again}
use Rattle.sb_codec.proofs.Bodies.{hello_takes, hello_again, digest_takes, digest_again, bye_takes, bye_again, ask_takes, ask_again, page_takes, page_again, write_takes, write_again, done_takes, done_again, refused_takes, refused_again, ask_status_takes, ask_status_again, status_takes, status_again, ask_change_takes, ask_change_again, notice_takes, notice_again, ages_takes, ages_again}
use Rattle.sb_codec.proofs.Sizes.{spelling-most}

pub message_takes : Takes (λ m. is_message m ≡ true) spelling message_field
unfolding message_field spelling
message_takes =
    tagged_takes message_cases (
      made_case KIND_HELLO Hello hello_takes (λ h fits. (fits, refl)),
      (
        made_case KIND_DIGEST Digest digest_takes (λ d fits. (fits, refl)),
        (
          made_case KIND_DELTA Delta delta_takes (λ blocks fits. (fits, refl)),
          (
            made_case KIND_BYE Bye bye_takes (λ reason fits. (fits, refl)),
            (
              made_case KIND_ASK Ask ask_takes (λ a fits. (fits, refl)),
              (
                made_case KIND_ROWS Rows page_takes (λ p fits. (fits, refl)),
                (
                  made_case KIND_PUT Put write_takes (λ w fits. (fits, refl)),
                  (
                    made_case KIND_DONE Done done_takes (λ version fits. (fits, refl)),
                    (
                      made_case KIND_REFUSED Refused refused_takes (λ fault fits. (fits, refl)),
                      (
                        made_case KIND_ASK_STATUS AskStatus ask_status_takes (λ after fits. (fits, refl)),
                        (
                          made_case KIND_NODE_STATUS NodeStatus status_takes (λ told fits. (fits, refl)),
                          (
                            made_case KIND_ASK_CHANGE AskChange ask_change_takes (λ asked fits. (fits, refl)),
                            (
                              made_case KIND_NOTICE Notice notice_takes (λ notice fits. (refl, refl)),
                              (
                                given_case KIND_ASK_AGES AskAges refl refl,
                                (made_case KIND_AGES Ages ages_takes (λ ages fits. (fits, refl)), tt),
                              ),
                            ),
                          ),
                        ),
                      ),
                    ),
                  ),
                ),
              ),
            ),
          ),
        ),
      ),
    )

pub message_again : (m : Message) → is_message m ≡ true → Again message_field (spelling m) m
unfolding message_field spelling
message_again (Hello h) fits = tagged_again message_cases KIND_HELLO (made_again Hello (hello_again h fits))
message_again (Digest d) fits = tagged_again message_cases KIND_DIGEST (made_again Digest (digest_again d fits))
message_again (Delta blocks) fits = tagged_again message_cases KIND_DELTA (made_again Delta (delta_again blocks fits))
message_again (Bye reason) fits = tagged_again message_cases KIND_BYE (made_again Bye (bye_again reason fits))
message_again (Ask a) fits = tagged_again message_cases KIND_ASK (made_again Ask (ask_again a fits))
message_again (Rows p) fits = tagged_again message_cases KIND_ROWS (made_again Rows (page_again p fits))
message_again (Put w) fits = tagged_again message_cases KIND_PUT (made_again Put (write_again w fits))
message_again (Done version) fits = tagged_again message_cases KIND_DONE (made_again Done (done_again version fits))
message_again (Refused fault) fits = tagged_again message_cases KIND_REFUSED (made_again Refused (refused_again fault fits))
message_again (AskStatus after) fits = tagged_again message_cases KIND_ASK_STATUS (made_again AskStatus (ask_status_again after fits))
message_again (NodeStatus told) fits = tagged_again message_cases KIND_NODE_STATUS (made_again NodeStatus (status_again told fits))
message_again (AskChange asked) fits = tagged_again message_cases KIND_ASK_CHANGE (made_again AskChange (ask_change_again asked fits))
message_again (Notice notice) fits = tagged_again message_cases KIND_NOTICE (made_again Notice (notice_again notice))
message_again AskAges fits = tagged_again message_cases KIND_ASK_AGES (given_again AskAges)
message_again (Ages ages) fits = tagged_again message_cases KIND_AGES (made_again Ages (ages_again ages fits))

nothing_behind : {A : Type 0} (read : Option (A × List ℕ)) (x : A) → option_and_then (λ y. if length y.1 == 0 then Some y.0 else None) read ≡ Some x → read ≡ Some (x, [])
nothing_behind None x e = absurd cc
nothing_behind (Some y) x e = let p = cond_some (length y.1 == 0) y.0 x e in rw (← p.1, nil_from_length y.1 (eqb-true _ _ p.0)) refl

ok_some : {A E : Type 0} (read : Option A) (fault : E) (x : A) → ok_or read fault ≡ Ok x → read ≡ Some x
ok_some None fault x e = absurd cc
ok_some (Some y) fault x e = cc

pub is_spelled : (payload : List ℕ) (m : Message) → is_message m ≡ true → payload ≡ spelling m → Spells payload m
is_spelled payload m fits bytes = record { limits = fits; most = rw bytes (spelling-most m fits); bytes = bytes }

pub is_found : (payload : List ℕ) (m : Message) → AreBytes payload → reading payload ≡ Ok m → Spells payload m
unfolding reading
is_found payload m are e =
    let read = nothing_behind (message_field payload) m (ok_some (whole_value message_field payload) (fault_of payload) m e) in
    let found = message_takes.parts payload m [] are read in
    let bytes : payload ≡ spelling m = found.1 ∙ append-nil (spelling m) in
    is_spelled payload m found.0 bytes

pub is_read : (payload : List ℕ) (m : Message) → Spells payload m → reading payload ≡ Ok m
unfolding reading
is_read payload m spells =
    let read : message_field payload ≡ Some (m, []) = ap message_field (spells.bytes ∙ sym (append-nil (spelling m))) ∙ (message_again m spells.limits).read [] in
    rw read refl

pub is_sole : (payload : List ℕ) (m : Message) → Spells payload m → IsSole payload m
is_sole payload m spells = record {
  sole_message = λ other also. let same : Ok other ≡ Ok m = sym (is_read payload other also) ∙ is_read payload m spells in cc;
  sole_payload = λ other also. also.bytes ∙ sym spells.bytes;
}

-- ---- the same of a result

pub if_found : (payload : List ℕ) (result : Result Message Fault) → AreBytes payload → Gives result (reading payload) → IfOk result (λ m. Spells payload m)
if_found payload (Ok m) are gives = is_found payload m are gives
if_found payload (Err fault) are gives = tt

pub if_sole : (payload : List ℕ) (result : Result Message Fault) → AreBytes payload → Gives result (reading payload) → IfOk result (λ m. IsSole payload m)
if_sole payload (Ok m) are gives = is_sole payload m (is_found payload m are gives)
if_sole payload (Err fault) are gives = tt

pub some_bytes : (payload : List ℕ) (m : Message) → Spells payload m → 1 ≤ length payload
unfolding spelling
some_bytes payload (Hello greeting) spells = rw spells.bytes (omega arith)
some_bytes payload (Digest told) spells = rw spells.bytes (omega arith)
some_bytes payload (Delta blocks) spells = rw spells.bytes (omega arith)
some_bytes payload (Bye reason) spells = rw spells.bytes (omega arith)
some_bytes payload (Ask asked) spells = rw spells.bytes (omega arith)
some_bytes payload (Rows rows) spells = rw spells.bytes (omega arith)
some_bytes payload (Put wanted) spells = rw spells.bytes (omega arith)
some_bytes payload (Done version) spells = rw spells.bytes (omega arith)
some_bytes payload (Refused fault) spells = rw spells.bytes (omega arith)
some_bytes payload (AskStatus after) spells = rw spells.bytes (omega arith)
some_bytes payload (NodeStatus told) spells = rw spells.bytes (omega arith)
some_bytes payload (AskChange asked) spells = rw spells.bytes (omega arith)
some_bytes payload (Notice notice) spells = rw spells.bytes (omega arith)
some_bytes payload AskAges spells = rw spells.bytes (omega arith)
some_bytes payload (Ages ages) spells = rw spells.bytes (omega arith)

-- ---- a kind that is not known

is_other : (known : Bool) (first kind : ℕ) → (if known then Malformed first else UnknownKind first) ≡ UnknownKind kind → known ≡ false
is_other true first kind e = absurd cc
is_other false first kind e = refl

is_never : (b : Bool) → (b ≡ true → true ≡ false) → b ≡ false
is_never true never = never refl
is_never false never = refl

differs : (known first : ℕ) → is_kind known ≡ true → is_kind first ≡ false → (first == known) ≡ false
differs known first is other = is_never (first == known) (λ same. sym is ∙ ap (λ kind. is_kind kind) (sym (eqb-true first known same)) ∙ other)

no_case : (first : ℕ) (body : List ℕ) → is_kind first ≡ false → case_field message_cases first body ≡ None
no_case first body other =
    rw
    (differs KIND_HELLO first refl other, differs KIND_DIGEST first refl other, differs KIND_DELTA first refl other, differs KIND_BYE first refl other, differs KIND_ASK first refl other, differs KIND_ROWS first refl other, differs KIND_PUT first refl other, differs KIND_DONE first refl other, differs KIND_REFUSED first refl other, differs KIND_ASK_STATUS first refl other, differs KIND_NODE_STATUS first refl other, differs KIND_ASK_CHANGE first refl other, differs KIND_NOTICE first refl other, differs KIND_ASK_AGES first refl other, differs KIND_AGES first refl other)
    refl

pub is_unknown : (payload : List ℕ) (kind : ℕ) → fault_of payload ≡ UnknownKind kind → reading payload ≡ Err (UnknownKind kind)
unfolding reading message_field byte_field
is_unknown [] kind e = ap Err e
is_unknown (first ∷ body) kind e =
    ap (λ read. ok_or (option_and_then (λ x. if length x.1 == 0 then Some x.0 else None) read) (fault_of (first ∷ body))) (no_case first body (is_other (is_kind first) first kind e))
    ∙ ap Err e
