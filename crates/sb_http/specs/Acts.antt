-- The calls of a backend, and what each answered.
use Rattle.std.specs.Prelude.{ℕ, List}
use Rattle.sb_types.specs.declared.entry.Write.{Write}
use Rattle.sb_types.specs.declared.fault.Fault.{Fault}
use Rattle.sb_codec.specs.declared.message.Message.{Message}
use Rattle.sb_codec.specs.declared.message.Message.TheVariants as kinds
use Rattle.sb_codec.specs.declared.message.ask.Ask as asking
use Rattle.sb_http.specs.declared.operation.Patience.{Patience}
use Rattle.sb_http.specs.declared.backend.HeldOwner.{HeldOwner}

-- a question and the message that answers it; a write that was asked for, and the message that answers that; a poll with a mark; the
-- owners; the metrics; or a call for these that failed
pub data Act : Type 0 where
  asks : Message → Message → Act
  puts : Write → Message → Act
  polls : asking.Ask → Patience → Message → List ℕ → Act
  lists : List HeldOwner → Act
  measures : List ℕ → Act
  fails : Fault → Act

-- the message asks for something, and writes nothing
abbrev pub IsQuestion : Message → Type 0
IsQuestion (kinds.Ask ask) = Unit {0}
IsQuestion (kinds.AskStatus after) = Unit {0}
IsQuestion (kinds.Put write) = ⊥
IsQuestion (kinds.Hello x) = ⊥
IsQuestion (kinds.Digest x) = ⊥
IsQuestion (kinds.Delta x) = ⊥
IsQuestion (kinds.Bye x) = ⊥
IsQuestion (kinds.Rows x) = ⊥
IsQuestion (kinds.Done x) = ⊥
IsQuestion (kinds.Refused x) = ⊥
IsQuestion (kinds.NodeStatus x) = ⊥
IsQuestion (kinds.AskChange x) = ⊥
IsQuestion (kinds.Notice x) = ⊥
IsQuestion kinds.AskAges = ⊥
IsQuestion (kinds.Ages x) = ⊥

-- the call writes nothing
abbrev pub OnlyReads : Act → Type 0
OnlyReads (asks request reply) = IsQuestion request
OnlyReads (puts write reply) = ⊥
OnlyReads (polls ask patience reply mark) = Unit {0}
OnlyReads (lists owners) = Unit {0}
OnlyReads (measures text) = Unit {0}
OnlyReads (fails fault) = Unit {0}
