-- What comes of receiving one message, and of sending a request for one.
use Rattle.std.specs.Prelude.{◌≡◌, ◌⊎◌, ℕ, true, List, [], ◌++◌, Result, Ok, Err}
use Rattle.std.specs.Io.KnownBytes.{Keeps, Appends, Consumes, IsAtEnd}
use Rattle.sb_types.specs.declared.fault.Fault.{Fault}
use Rattle.sb_types.specs.declared.fault.Fault.TheVariants.{Closed, Truncated}
use Rattle.sb_codec.specs.declared.message.Message.{Message}
use Rattle.sb_frames.specs.Frames.{frame, whole, front_of}
use Rattle.sb_frames.specs.Streams.{Stream, open_with, shut}
use Rattle.sb_frames.specs.Receiving.{is_shut, Stops}
use Rattle.sb_frames.specs.Sending.{Sends}
use Rattle.sb_frames.specs.Connections.{Connection, at_start, KeepsInput}

-- the message is in front of what was held and read, and the rest is held; or nothing came, or what came is no message
abbrev pub ReceivesOneIn : List ℕ → Connection → Connection → Result Message Fault → Type 0
ReceivesOneIn bytes old new (Ok message) = (rest : List ℕ) × (front_of bytes ≡ whole message rest) × (new.stream ≡ open_with rest)
ReceivesOneIn bytes old new (Err fault) =
    ((bytes ≡ []) × (fault ≡ Truncated) × IsAtEnd new.input) ⊎ Stops fault bytes new.stream new.input old.left new.left

abbrev pub ReceivesOneFrom : Stream → Connection → Connection → Result Message Fault → Type 0
ReceivesOneFrom (open_with held) old new result = (bytes : List ℕ) × Consumes old.input new.input bytes × ReceivesOneIn (held ++ bytes) old new result
ReceivesOneFrom shut old new result = (result ≡ Err Closed) × (new.stream ≡ shut) × Keeps old.input new.input × (new.left ≡ old.left)

-- the next message of a connection
abbrev pub ReceivesOne : Connection → Connection → Result Message Fault → Type 0
ReceivesOne old new result = ReceivesOneFrom old.stream old new result

-- the request is written, and then the answer is received; or the request is cut short, and nothing is read; or the
-- connection is closed
abbrev pub Asks : Message → Connection → Connection → Result Message Fault → Type 0
Asks request old new result =
    (Appends old.output new.output (frame request) × ReceivesOne old new result)
    ⊎ (((fault : Fault) × (result ≡ Err fault) × Sends {X = Unit {0}} old.output new.output (frame request) (Err fault) × KeepsInput (at_start old) new)
    ⊎ ((is_shut old.stream ≡ true) × (result ≡ Err Closed) × (new ≡ old)))
