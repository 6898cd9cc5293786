-- What a call that sends puts out.
use Rattle.std.specs.Prelude.{◌≡◌, ◌≢◌, ◌⊎◌, ℕ, ◌+◌, ◌<◌, Bool, true, false, ◌==◌, nat_lt, if◌then◌else◌, List, length, take, Option, Result, Ok, Err}
use Rattle.std.specs.declared.io.Error.{Error}
use Rattle.std.specs.declared.io.ErrorKind.TheVariants as kinds
use Rattle.std.specs.IoError.{error_kind}
use Rattle.std.specs.Io.KnownBytes.{Keeps, Appends}
use Rattle.sb_types.specs.declared.fault.Fault.{Fault}
use Rattle.sb_types.specs.declared.fault.Fault.TheVariants.{NoMemory, WriteFailed}
use Rattle.sb_frames.specs.declared.last_write.TheConstants.{INTERRUPTED_MOST}
use Rattle.sb_frames.specs.declared.last_write.Outcome.{Outcome}
use Rattle.sb_frames.specs.declared.last_write.Outcome.TheVariants.{Took, Interrupted, Failed}

-- all of the bytes are put out; or so many of the first, fewer than all; or none for want of memory
abbrev pub Sends : {X : Type 0} → Option (List ℕ) → Option (List ℕ) → List ℕ → Result X Fault → Type 0
Sends old new bytes (Ok _) = Appends old new bytes
Sends old new bytes (Err NoMemory) = Keeps old new
Sends old new bytes (Err (WriteFailed count)) = (count < length bytes) × Appends old new (take count bytes)
Sends old new bytes (Err _) = ⊥

-- how many writes in a row were interrupted, up to this one
abbrev pub times_of : Outcome → ℕ
times_of Took = 0
times_of (Interrupted times) = times
times_of Failed = 0

-- how the write ended, behind the one before: one that took no byte has failed, and one that was interrupted is told so
-- and counted, and no other is
abbrev pub Tells : Outcome → Result ℕ Error → Outcome → Type 0
Tells old (Ok count) new = new ≡ (if count == 0 then Failed else Took)
Tells old (Err error) new =
    ((new ≡ Failed) × (error_kind error ≢ kinds.Interrupted))
    ⊎ ((new ≡ Interrupted (1 + times_of old)) × (error_kind error ≡ kinds.Interrupted))

-- it failed, or too many in a row were interrupted
abbrev pub has_failed : Outcome → Bool
has_failed Took = false
has_failed (Interrupted times) = nat_lt INTERRUPTED_MOST times
has_failed Failed = true

-- only where the last write failed is a write said to have failed
abbrev pub OnlyWhereFailed : {X : Type 0} → Result X Fault → Outcome → Type 0
OnlyWhereFailed (Err (WriteFailed count)) last = has_failed last ≡ true
OnlyWhereFailed (Err _) last = Unit {0}
OnlyWhereFailed (Ok _) last = Unit {0}
