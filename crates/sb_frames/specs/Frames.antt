-- How a message lies on a stream, and what stands at the front of bytes.
use Rattle.std.specs.Prelude.{◌≡◌, ℕ, Bool, true, ◌==◌, if◌then◌else◌, List, [], ◌∷◌, ◌++◌, length, Option, Some, None, Result, Ok, Err}
use Rattle.std.specs.Int.{w32}
use Rattle.sb_types.specs.declared.fault.Fault.{Fault}
use Rattle.sb_types.specs.declared.fault.Fault.TheVariants.{BadMark, BadVersion, BadLength}
use Rattle.sb_types.specs.declared.format.TheConstants.{FRAME_MARK, FRAME_VERSION}
use Rattle.sb_types.specs.declared.limits.TheConstants.{PAYLOAD_MOST}
use Rattle.sb_types.specs.Text.{is_between}
use Rattle.sb_codec.specs.declared.message.Message.{Message}
use Rattle.sb_codec.specs.Spelling.{number}
use Rattle.sb_codec.specs.Fields.{byte_field, number_field, bytes_field}
use Rattle.sb_codec.specs.Messages.{spelling, is_message, TakesMemory, reading}

-- the mark, the version and the payload's length, and the payload
unfoldable pub frame_of_payload : List ℕ → List ℕ
frame_of_payload payload = FRAME_MARK ∷ FRAME_VERSION ∷ (number w32 (length payload) ++ payload)

unfoldable pub frame : Message → List ℕ
frame message = frame_of_payload (spelling message)

-- a payload may be so long
abbrev pub is_payload_length : ℕ → Bool
is_payload_length count = is_between 1 PAYLOAD_MOST count

-- the bytes are a payload behind its header, and then a rest
pub record IsFramed (bytes payload rest : List ℕ) : Type 0 where
  pub limits : is_payload_length (length payload) ≡ true
  pub laid : bytes ≡ frame_of_payload payload ++ rest

-- a whole payload of a kind of message that takes memory stands in front
abbrev pub HasPayload : List ℕ → Type 0
HasPayload bytes = (payload : List ℕ) × (rest : List ℕ) × IsFramed bytes payload rest × TakesMemory payload

-- the bytes are one whole frame, whose payload takes memory, and no byte more
abbrev pub IsLoneFrame : List ℕ → Type 0
IsLoneFrame bytes = (payload : List ℕ) × IsFramed bytes payload [] × TakesMemory payload

-- the frame of a message stands in front, and then a rest
pub record Leads (bytes : List ℕ) (message : Message) (rest : List ℕ) : Type 0 where
  pub limits : is_message message ≡ true
  pub laid : bytes ≡ frame message ++ rest

-- What stands at the front of bytes: less than a frame, the frame of a message and a rest, or no frame.
pub data Front : Type 0 where
  short : Front
  whole : Message → List ℕ → Front
  bad : Fault → Front

-- a field, once it has come, and what its value and the bytes behind it lead to
abbrev pub front_after_field : {A : Type 0} → Option (A × List ℕ) → (A → List ℕ → Front) → Front
front_after_field None next = short
front_after_field (Some x) next = next x.0 x.1

abbrev pub front_by : Result Message Fault → List ℕ → Front
front_by (Ok message) rest = whole message rest
front_by (Err fault) rest = bad fault

abbrev pub front_of_payload : List ℕ → List ℕ → Front
front_of_payload payload rest = front_by (reading payload) rest

abbrev pub front_after_length : ℕ → List ℕ → Front
front_after_length count bytes = if is_payload_length count then front_after_field (bytes_field count bytes) front_of_payload else bad BadLength

abbrev pub front_after_version : ℕ → List ℕ → Front
front_after_version version bytes = if version == FRAME_VERSION then front_after_field (number_field w32 bytes) front_after_length else bad BadVersion

abbrev pub front_after_mark : ℕ → List ℕ → Front
front_after_mark mark bytes = if mark == FRAME_MARK then front_after_field (byte_field bytes) front_after_version else bad BadMark

-- The mark is looked at as soon as it has come, then the version, the length and the payload.
unfoldable pub front_of : List ℕ → Front
front_of bytes = front_after_field (byte_field bytes) front_after_mark

-- what stands at the front once more bytes have come: only what was too short may become something else
abbrev pub Extends : Front → List ℕ → Front → Type 0
Extends short more new = Unit {0}
Extends (whole message rest) more new = new ≡ whole message (rest ++ more)
Extends (bad fault) more new = new ≡ bad fault
