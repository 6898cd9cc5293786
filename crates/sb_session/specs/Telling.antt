-- What a call that sends several messages puts out.
use Rattle.std.specs.Prelude.{◌≡◌, ℕ, ◌<◌, List, ◌∷◌, ◌++◌, ◌⊎◌, length, take, Option, Result, Ok, Err}
use Rattle.std.specs.List.{flat_map}
use Rattle.std.specs.Io.KnownBytes.{Appends}
use Rattle.sb_types.specs.declared.fault.Fault.{Fault}
use Rattle.sb_types.specs.declared.fault.Fault.TheVariants.{NoMemory, WriteFailed}
use Rattle.sb_codec.specs.declared.message.Message.{Message}
use Rattle.sb_frames.specs.Frames.{frame}

-- the frames of the first messages are put out, and so many bytes of the next, fewer than all: none for want of memory
pub record CutShort (old new : Option (List ℕ)) (messages : List Message) (fault : Fault) : Type 0 where
  pub sent : List Message
  pub last : Message
  pub unsent : List Message
  pub count : ℕ
  pub all : messages ≡ sent ++ (last ∷ unsent)
  pub part : count < length (frame last)
  pub put_out : Appends old new (flat_map frame sent ++ take count (frame last))
  pub why : (fault ≡ WriteFailed count) ⊎ ((fault ≡ NoMemory) × (count ≡ 0))

-- the frames of all of the messages are put out; or they are cut short
abbrev pub Says : {X : Type 0} → Option (List ℕ) → Option (List ℕ) → List Message → Result X Fault → Type 0
Says old new messages (Ok _) = Appends old new (flat_map frame messages)
Says old new messages (Err fault) = CutShort old new messages fault
