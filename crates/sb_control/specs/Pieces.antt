-- What is read of a request that comes in pieces.
use Rattle.std.specs.Prelude.{◌≡◌, ◌⊎◌, List, ◌++◌, ℕ, Option, Some, None, Result, Ok, Err}
use Rattle.std.specs.Io.KnownBytes.{Keeps, Consumes}
use Rattle.sb_types.specs.declared.fault.Fault.{Fault}
use Rattle.sb_types.specs.declared.fault.Fault.TheVariants.{ReadFailed, Truncated, TurnsSpent}
use Rattle.sb_codec.specs.declared.message.Message.{Message}
use Rattle.sb_frames.specs.Receiving.{Receives}
use Rattle.sb_frames.specs.Streams.{Stream, open_with, shut, Hands}

-- some bytes came since, and are held behind those that were held; or nothing is held any more
abbrev pub HasGrown : Stream → Stream → Option (List ℕ) → Option (List ℕ) → Type 0
HasGrown (open_with held) new from to = (bytes : List ℕ) × Consumes from to bytes × (new ≡ open_with (held ++ bytes))
HasGrown shut new from to = (new ≡ shut) × Keeps from to

-- the message is what stands in front of the bytes that were held and that came since
abbrev pub HasCome : Message → Stream → Stream → Option (List ℕ) → Option (List ℕ) → Type 0
HasCome message (open_with held) new from to = (bytes : List ℕ) × Consumes from to bytes × Hands (held ++ bytes) message new
HasCome message shut new from to = ⊥

-- the first message came; or all that came is held, until there is more, or after a read that failed
abbrev pub ReadsPiece : Stream → Stream → Option (List ℕ) → Option (List ℕ) → Result (Option Message) Fault → Type 0
ReadsPiece old new from to (Ok (Some message)) = HasCome message old new from to
ReadsPiece old new from to (Ok None) = HasGrown old new from to
ReadsPiece old new from to (Err fault) = fault ≡ ReadFailed → HasGrown old new from to

-- a call for the first message, with one read, is answered so over these bytes
abbrev pub IsReceived : Stream → Stream → Option (List ℕ) → Option (List ℕ) → Result (Option Message) Fault → Type 0
IsReceived old new from to result = (rest : ℕ) × Receives old new from to 1 rest result

-- why no piece came: no read was left, the bytes ended before the request, or the call for the message met this fault
abbrev pub FailsPiece : Stream → Stream → Option (List ℕ) → Option (List ℕ) → ℕ → Fault → Type 0
FailsPiece old new from to left fault =
    ((fault ≡ TurnsSpent) × (left ≡ 0) × (new ≡ old))
    ⊎ (((fault ≡ Truncated) × IsReceived old new from to (Ok None)) ⊎ IsReceived old new from to (Err fault))
