-- What comes of any calls, in any order, with any pieces.
use Rattle.std.specs.Prelude.{◌≡◌, ℕ, true, List, [], ◌∷◌, ◌++◌, Option, Some, Result, Ok, Err}
use Rattle.std.specs.List.{flat_map, list_all}
use Rattle.sb_types.specs.declared.fault.Fault.{Fault}
use Rattle.sb_codec.specs.declared.message.Message.{Message}
use Rattle.sb_codec.specs.Messages.{is_message}
use Rattle.sb_frames.specs.Frames.{frame, short, bad, front_of}
use Rattle.sb_frames.specs.Streams.{Stream, open_with, shut, Feeds, TakesNext}

-- a call, and what it answered
pub data Call : Type 0 where
  feed : List ℕ → Result (Unit {0}) Fault → Call
  next : Result (Option Message) Fault → Call

-- the calls may be made one after the other, with these answers
abbrev pub Run : Stream → List Call → Stream → Type 0
Run old [] new = new ≡ old
Run old (feed piece answer ∷ calls) new = (mid : Stream) × Feeds old piece answer mid × Run mid calls new
Run old (next answer ∷ calls) new = (mid : Stream) × TakesNext old answer mid × Run mid calls new

-- the bytes that were fed
abbrev pub bytes_fed : List Call → List ℕ
bytes_fed [] = []
bytes_fed (feed piece (Ok done) ∷ calls) = piece ++ bytes_fed calls
bytes_fed (feed piece (Err fault) ∷ calls) = bytes_fed calls
bytes_fed (next answer ∷ calls) = bytes_fed calls

-- the messages that were taken out
abbrev pub messages_taken : List Call → List Message
messages_taken [] = []
messages_taken (next (Ok (Some message)) ∷ calls) = message ∷ messages_taken calls
messages_taken (_ ∷ calls) = messages_taken calls

-- the rest is held; or, where no more is, it begins with a faulty frame
abbrev pub IsLeft : List ℕ → Stream → Type 0
IsLeft rest (open_with held) = held ≡ rest
IsLeft rest shut = (fault : Fault) × (front_of rest ≡ bad fault)

-- the stream is the messages that were taken out, and then what is left
pub record Accounts (stream : List ℕ) (messages : List Message) (new : Stream) : Type 0 where
  pub rest : List ℕ
  pub whole : stream ≡ flat_map frame messages ++ rest
  pub each : list_all is_message messages ≡ true
  pub left : IsLeft rest new

-- no message is left to be taken out
abbrev pub IsSpent : Stream → Type 0
IsSpent (open_with held) = front_of held ≡ short
IsSpent shut = Unit {0}
