-- Audits: the digest that asks for the own name alone, and how far its blocks came.
use Rattle.std.specs.Prelude.{◌≡◌, ℕ, ◌+◌, Bool, max, nat_le, nat_eq, if◌then◌else◌, List, [], ◌∷◌, Option, Some, None, Result, Ok, Err, IfErr}
use Rattle.sb_types.specs.declared.fault.Fault.{Fault}
use Rattle.sb_digest.specs.Digests.{Digest, Pair}
use Rattle.sb_session.specs.Handlers.{Act, tells, gives, applies, IsRefusal}
use Rattle.sb_run.specs.declared.auditing.Progress.{Progress}

-- the bytes of names are a dash, the digits and the letters, in the order of their numbers
abbrev pub next_byte : ℕ → Option ℕ
next_byte byte =
    if nat_eq byte 45 then Some 48
    else (if nat_eq byte 57 then Some 97 else (if nat_eq byte 122 then None else (if nat_eq byte 255 then None else Some (byte + 1))))

abbrev pub no_progress : Progress
no_progress = record { upto = 0; floor = 0; staged = 0 }

-- a block whose floor is not above what came joins on to it; another is of a whole table, which is there once it has reached its floor
abbrev pub progress_after : ℕ → ℕ → Progress → Progress
progress_after floor upto p =
    if nat_le floor p.upto then record { upto = max p.upto upto; floor = p.floor; staged = p.staged }
    else (if nat_le floor upto then record { upto = upto; floor = 0; staged = 0 } else record { upto = p.upto; floor = floor; staged = upto })

abbrev pub pair_of : List ℕ → Progress → Pair
pair_of me p = record { owner = me; held = p.upto; floor = p.floor; progress = p.staged }

-- a fault is one of a handler
abbrev pub IsRefusedOnly : {X : Type 0} → Result X Fault → Type 0
IsRefusedOnly result = IfErr result IsRefusal

-- the digest of an audit: from the own name on, with one pair that says how far the blocks of the audit came
abbrev pub IsAuditDigest : List ℕ → Progress → Bool → Digest → Type 0
IsAuditDigest me p want digest = (digest.want ≡ want) × (digest.from ≡ Some me) × (digest.pairs ≡ pair_of me p ∷ [])

-- what an audit answers: it asks for the own name alone, and offers nothing
abbrev pub AuditAnswers : List ℕ → Progress → Act → Type 0
AuditAnswers me p (tells from want (Ok digest)) = IsAuditDigest me p want digest
AuditAnswers me p (tells from want (Err fault)) = IsRefusal fault
AuditAnswers me p (gives theirs (Ok blocks)) = blocks ≡ []
AuditAnswers me p (gives theirs (Err fault)) = IsRefusal fault
AuditAnswers me p (applies blocks (Ok ends)) = ends ≡ []
AuditAnswers me p (applies blocks (Err fault)) = IsRefusal fault
