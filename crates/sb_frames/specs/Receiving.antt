-- What comes of a call that reads a message.
use Rattle.std.specs.Prelude.{◌≡◌, ◌≢◌, ℕ, ◌<◌, ◌≤◌, Bool, true, false, List, [], ◌∷◌, ◌++◌, ◌⊎◌, length, take, Option, Some, None, Result, Ok, Err}
use Rattle.std.specs.declared.io.Error.{Error}
use Rattle.std.specs.declared.io.ErrorKind.TheVariants as kinds
use Rattle.std.specs.IoError.{error_kind}
use Rattle.std.specs.Io.KnownBytes.{Keeps, Consumes, IsAtEnd}
use Rattle.sb_types.specs.declared.fault.Fault.{Fault}
use Rattle.sb_types.specs.declared.fault.Fault.TheVariants.{NoMemory, Closed, BadMark, BadVersion, BadLength, UnknownKind, Malformed, ReadFailed, Truncated, TurnsSpent}
use Rattle.sb_codec.specs.declared.message.Message.{Message}
use Rattle.sb_frames.specs.declared.frames.TheConstants.{READ_LENGTH}
use Rattle.sb_frames.specs.Frames.{short, bad, front_of}
use Rattle.sb_frames.specs.Streams.{Stream, open_with, shut, Hands}

abbrev pub is_shut : Stream → Bool
is_shut (open_with held) = false
is_shut shut = true

-- the bytes that were not taken out yet; none of what is shut
abbrev pub held_of : Stream → List ℕ
held_of (open_with held) = held
held_of shut = []

-- at the end of a stream: whether all of it was taken out
abbrev pub end_of_held : List ℕ → Result (Unit {0}) Fault
end_of_held [] = Ok tt
end_of_held (byte ∷ bytes) = Err Truncated

abbrev pub end_of : Stream → Result (Unit {0}) Fault
end_of stream = end_of_held (held_of stream)

-- whether the read failed: one that was interrupted did not, nor did one that gave bytes or the end
abbrev pub TellsRead : Result ℕ Error → Bool → Type 0
TellsRead (Ok count) has_failed = has_failed ≡ false
TellsRead (Err error) has_failed =
    ((has_failed ≡ true) × (error_kind error ≢ kinds.Interrupted))
    ⊎ ((has_failed ≡ false) × (error_kind error ≡ kinds.Interrupted))

-- only where the last read failed is a read said to have failed
abbrev pub OnlyWhereReadFailed : {X : Type 0} → Result X Fault → Bool → Type 0
OnlyWhereReadFailed (Err ReadFailed) has_failed = has_failed ≡ true
OnlyWhereReadFailed (Err _) has_failed = Unit {0}
OnlyWhereReadFailed (Ok _) has_failed = Unit {0}

-- bytes came out of a reader, none only at its end; or none came, since a read failed or no read is left
abbrev pub GivesBytes : Option (List ℕ) → Option (List ℕ) → List ℕ → ℕ → ℕ → Result ℕ Fault → Type 0
GivesBytes from to bytes before left (Ok count) =
    (count ≤ length bytes) × Consumes from to (take count bytes) × (count ≡ 0 → 0 < length bytes → IsAtEnd to) × (left < before)
GivesBytes from to bytes before left (Err fault) = Keeps from to × (((fault ≡ ReadFailed) × (left < before)) ⊎ ((fault ≡ TurnsSpent) × (left ≡ 0) × (left ≤ before)))

-- why no bytes came: there was no room for them, a read failed, or no read is left
abbrev pub Misses : Fault → ℕ → ℕ → Type 0
Misses fault before left =
    ((fault ≡ NoMemory) × (left ≡ before)) ⊎ (((fault ≡ ReadFailed) × (left < before)) ⊎ ((fault ≡ TurnsSpent) × (left ≡ 0) × (left ≤ before)))

-- the bytes of one read, behind what is held
pub record Filled (held : List ℕ) (from to : Option (List ℕ)) (before left count : ℕ) (new : Stream) : Type 0 where
  pub bytes : List ℕ
  pub consumed : Consumes from to bytes
  pub filled : length bytes ≡ count
  pub most : count ≤ READ_LENGTH
  pub end : count ≡ 0 → IsAtEnd to
  pub stands : new ≡ open_with (held ++ bytes)
  pub read : left < before

abbrev pub Fills : List ℕ → Option (List ℕ) → Option (List ℕ) → ℕ → ℕ → Result ℕ Fault → Stream → Type 0
Fills held from to before left (Ok count) new = Filled held from to before left count new
Fills held from to before left (Err fault) new = (new ≡ open_with held) × Keeps from to × Misses fault before left

-- the faults of a frame
abbrev pub is_frame_fault : Fault → Bool
is_frame_fault BadMark = true
is_frame_fault BadVersion = true
is_frame_fault BadLength = true
is_frame_fault (UnknownKind kind) = true
is_frame_fault (Malformed kind) = true
is_frame_fault _ = false

-- why no message is handed out, over all that was held and read
pub data Stops (fault : Fault) (bytes : List ℕ) (new : Stream) (to : Option (List ℕ)) (before left : ℕ) : Type 0 where
  is_bad : front_of bytes ≡ bad fault → new ≡ shut → Stops fault bytes new to before left
  no_memory : fault ≡ NoMemory → new ≡ open_with bytes → Stops fault bytes new to before left
  read_failed : fault ≡ ReadFailed → front_of bytes ≡ short → new ≡ open_with bytes → left < before → Stops fault bytes new to before left
  cut_short : fault ≡ Truncated → front_of bytes ≡ short → new ≡ open_with bytes → bytes ≢ [] → IsAtEnd to → Stops fault bytes new to before left
  turns_spent : fault ≡ TurnsSpent → front_of bytes ≡ short → new ≡ open_with bytes → left ≡ 0 → Stops fault bytes new to before left

-- what comes of all that was held and read: the message in front; nothing, at an end between frames; or a fault
abbrev pub Gives : List ℕ → Result (Option Message) Fault → Stream → Option (List ℕ) → ℕ → ℕ → Type 0
Gives bytes (Ok (Some message)) new to before left = Hands bytes message new
Gives bytes (Ok None) new to before left = (bytes ≡ []) × (new ≡ open_with []) × IsAtEnd to
Gives bytes (Err fault) new to before left = Stops fault bytes new to before left

-- some reads of those that were left gave these bytes, and none was made where what is held begins with a frame or a fault
pub record ReceivesOpen (held : List ℕ) (new : Stream) (from to : Option (List ℕ)) (before left : ℕ) (result : Result (Option Message) Fault) : Type 0 where
  pub bytes : List ℕ
  pub consumed : Consumes from to bytes
  pub needed : (front_of held ≡ short) ⊎ ((bytes ≡ []) × (left ≡ before))
  pub fewer : left ≤ before
  pub given : Gives (held ++ bytes) result new to before left

abbrev pub Receives : Stream → Stream → Option (List ℕ) → Option (List ℕ) → ℕ → ℕ → Result (Option Message) Fault → Type 0
Receives (open_with held) new from to before left result = ReceivesOpen held new from to before left result
Receives shut new from to before left result = (result ≡ Err Closed) × (new ≡ shut) × Keeps from to × (left ≡ before)
