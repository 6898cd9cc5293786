-- A connection, and what its calls leave of it.
use Rattle.std.specs.Prelude.{◌≡◌, ℕ, Bool, true, false, List, [], Option, Result, Ok, Err}
use Rattle.sb_types.specs.declared.fault.Fault.{Fault}
use Rattle.sb_types.specs.declared.fault.Fault.TheVariants.{Closed}
use Rattle.sb_codec.specs.declared.message.Message.{Message}
use Rattle.sb_frames.specs.declared.last_write.Outcome.{Outcome}
use Rattle.sb_frames.specs.declared.last_write.Outcome.TheVariants.{Took}
use Rattle.sb_frames.specs.Streams.{Stream, open_with}
use Rattle.sb_frames.specs.Receiving.{is_shut, Receives}

-- the bytes that the reader still has and those that the writer took, where they are known; what was read and not taken
-- out; the reads that are left, and those that were made; whether the last read failed, and how the last write ended
pub record Connection : Type 0 where
  pub input : Option (List ℕ)
  pub output : Option (List ℕ)
  pub stream : Stream
  pub left : ℕ
  pub steps : ℕ
  pub read_failed : Bool
  pub last_write : Outcome

-- a connection in which nothing was read or written
abbrev pub new_connection : Option (List ℕ) → Option (List ℕ) → ℕ → ℕ → Connection
new_connection input output left steps =
    record { input = input; output = output; stream = open_with []; left = left; steps = steps; read_failed = false; last_write = Took }

-- the connection without what its last read and its last write answered
abbrev pub at_start : Connection → Connection
at_start c = record { input = c.input; output = c.output; stream = c.stream; left = c.left; steps = c.steps; read_failed = false; last_write = Took }

-- it starts, unless it is closed
abbrev pub Starts : {X : Type 0} → Connection → Result X Fault → Connection → Type 0
Starts old (Ok _) new = (is_shut old.stream ≡ false) × (new ≡ at_start old)
Starts old (Err fault) new = (is_shut old.stream ≡ true) × (fault ≡ Closed) × (new ≡ old)

-- nothing was read
abbrev pub KeepsInput : Connection → Connection → Type 0
KeepsInput old new =
    (new.input ≡ old.input) × (new.stream ≡ old.stream) × (new.left ≡ old.left) × (new.steps ≡ old.steps) × (new.read_failed ≡ old.read_failed)

-- nothing was written
abbrev pub KeepsOutput : Connection → Connection → Type 0
KeepsOutput old new = (new.output ≡ old.output) × (new.last_write ≡ old.last_write)

-- a message comes, or none, as `Receives` says
abbrev pub ReceivesOn : Connection → Connection → Result (Option Message) Fault → Type 0
ReceivesOn old new result = Receives old.stream new.stream old.input new.input old.left new.left result
