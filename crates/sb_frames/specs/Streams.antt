-- What is held of a stream, and how a stream is read.
use Rattle.std.specs.Prelude.{◌≡◌, ◌≢◌, ℕ, true, List, ◌++◌, ◌⊎◌, Option, Some, None, Result, Ok, Err}
use Rattle.std.specs.List.{flat_map, list_all}
use Rattle.sb_types.specs.declared.fault.Fault.{Fault}
use Rattle.sb_types.specs.declared.fault.Fault.TheVariants.{NoMemory, Closed}
use Rattle.sb_codec.specs.declared.message.Message.{Message}
use Rattle.sb_codec.specs.Messages.{is_message}
use Rattle.sb_frames.specs.Frames.{frame, short, whole, bad, front_of, HasPayload, Leads}

-- a stream as far as it has come: the bytes that were not taken out yet; or nothing more, after a fault
pub data Stream : Type 0 where
  open_with : List ℕ → Stream
  shut : Stream

-- what comes of a piece that is fed
abbrev pub Feeds : {X : Type 0} → Stream → List ℕ → Result X Fault → Stream → Type 0
Feeds shut piece result new = (result ≡ Err Closed) × (new ≡ shut)
Feeds (open_with held) piece (Ok _) new = new ≡ open_with (held ++ piece)
Feeds (open_with held) piece (Err fault) new = (fault ≡ NoMemory) × (new ≡ open_with held)

-- the message whose frame stands first in what is held is taken out
pub record Hands (held : List ℕ) (message : Message) (new : Stream) : Type 0 where
  pub rest : List ℕ
  pub leads : Leads held message rest
  pub front : front_of held ≡ whole message rest
  pub left : new ≡ open_with rest

-- what comes of a call for the next message, where these bytes are held
abbrev pub Takes : List ℕ → Result (Option Message) Fault → Stream → Type 0
Takes held (Ok (Some message)) new = Hands held message new
Takes held (Ok None) new = (front_of held ≡ short) × (new ≡ open_with held)
-- want of memory changes nothing, and a whole payload that takes memory was there to be read
Takes held (Err fault) new = ((front_of held ≡ bad fault) × (new ≡ shut)) ⊎ ((fault ≡ NoMemory) × HasPayload held × (new ≡ open_with held))

-- what is looked at in front of the bytes, and which of them stay
abbrev pub TakesFirst : List ℕ → Result (Option Message) Fault → List ℕ → Type 0
TakesFirst bytes (Ok (Some message)) rest = Leads bytes message rest
TakesFirst bytes (Ok None) rest = (front_of bytes ≡ short) × (rest ≡ bytes)
TakesFirst bytes (Err fault) rest = ((front_of bytes ≡ bad fault) ⊎ ((fault ≡ NoMemory) × HasPayload bytes)) × (rest ≡ bytes)

abbrev pub TakesNext : Stream → Result (Option Message) Fault → Stream → Type 0
TakesNext shut result new = (result ≡ Err Closed) × (new ≡ shut)
TakesNext (open_with held) result new = Takes held result new

-- the stream is these messages, and then a rest that begins with no message's frame
pub record Splits (stream : List ℕ) (messages : List Message) (rest : List ℕ) : Type 0 where
  pub whole : stream ≡ flat_map frame messages ++ rest
  pub each : list_all is_message messages ≡ true
  pub partial : (message : Message) (more : List ℕ) → is_message message ≡ true → rest ≢ frame message ++ more
