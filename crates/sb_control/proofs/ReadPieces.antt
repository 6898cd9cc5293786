-- What one read of a request brings.
use Rattle.std.proofs.Common.{◌≡◌, ℕ, true, false, List, ◌++◌, Option, None, Ok, Err, inl, inr, refl, sym, ap, subst}
use Rattle.sb_types.specs.declared.fault.Fault.{Fault}
use Rattle.sb_types.specs.declared.fault.Fault.TheVariants.{ReadFailed, Truncated, TurnsSpent}
use Rattle.sb_frames.specs.Frames.{bad, front_of}
use Rattle.sb_frames.specs.Streams.{Stream, open_with, shut}
use Rattle.sb_frames.specs.Receiving.{is_frame_fault, Stops, is_bad, no_memory, read_failed, cut_short, turns_spent, Receives}
use Rattle.sb_control.specs.Pieces.{HasGrown, FailsPiece}

-- only the five faults of frames are of the bytes
abbrev pub AreOfFrames : Type 0
AreOfFrames = (bytes : List ℕ) (fault : Fault) → front_of bytes ≡ bad fault → is_frame_fault fault ≡ true

stops_open : AreOfFrames → (fault : Fault) (bytes : List ℕ) (new : Stream) (to : Option (List ℕ)) (before left : ℕ)
    → is_frame_fault fault ≡ false → Stops fault bytes new to before left → new ≡ open_with bytes
stops_open are fault bytes new to before left other (is_bad front is) = absurd (let known = are bytes fault front in cc)
stops_open are fault bytes new to before left other (no_memory is stands) = stands
stops_open are fault bytes new to before left other (read_failed is front stands fewer) = stands
stops_open are fault bytes new to before left other (cut_short is front stands some end) = stands
stops_open are fault bytes new to before left other (turns_spent is front stands none) = stands

-- a call that gave no message, and met no fault of a frame, holds all that came
pub has_grown : AreOfFrames → (fault : Fault) (old new : Stream) (from to : Option (List ℕ)) (before left : ℕ) → is_frame_fault fault ≡ false
    → Receives old new from to before left (Err fault) → HasGrown old new from to
has_grown are fault (open_with held) new from to before left other call =
    (call.bytes, call.consumed, stops_open are fault (held ++ call.bytes) new to before left other call.given)
has_grown are fault shut new from to before left other call = (call.1, call.2)

-- a read that gave less than the message
pub has_waited : AreOfFrames → (fault : Fault) (old new : Stream) (from to : Option (List ℕ)) (before left : ℕ) → fault ≡ TurnsSpent
    → Receives old new from to before left (Err fault) → HasGrown old new from to
has_waited are fault old new from to before left is call = has_grown are fault old new from to before left (ap is_frame_fault is) call

pub has_missed : AreOfFrames → (fault : Fault) (old new : Stream) (from to : Option (List ℕ)) (before left : ℕ)
    → Receives old new from to before left (Err fault) → fault ≡ ReadFailed → HasGrown old new from to
has_missed are fault old new from to before left call is = has_grown are fault old new from to before left (ap is_frame_fault is) call

-- the bytes ended before the request
pub fails_at_end : (old new : Stream) (from to : Option (List ℕ)) (before rest : ℕ) → Receives old new from to 1 rest (Ok None) → FailsPiece old new from to before Truncated
fails_at_end old new from to before rest call = inr (inl (refl, (rest, call)))

-- the call met this fault
pub fails_with : (old new : Stream) (from to : Option (List ℕ)) (before rest : ℕ) (given fault : Fault) → given ≡ fault → Receives old new from to 1 rest (Err fault)
    → FailsPiece old new from to before given
fails_with old new from to before rest given fault is call =
    inr (inr (rest, subst (λ (met : Fault). Receives old new from to 1 rest (Err met)) (sym is) call))
