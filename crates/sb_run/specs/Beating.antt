-- What a beat of a node leaves.
use Rattle.std.specs.Prelude.{◌≡◌, ◌⊎◌, Option, Some, None, Result}
use Rattle.sb_types.specs.declared.fault.Fault.{Fault}
use Rattle.sb_holdings.specs.Nodes.{Node}
use Rattle.sb_log.specs.Records.{Committed, Log}
use Rattle.sb_directory.specs.Seats.{Seat}
use Rattle.sb_run.specs.declared.node.Beat.{Beat}
use Rattle.sb_run.specs.declared.own_writes.Stored.{Stored}
use Rattle.sb_run.specs.Control.{IsPut}
use Rattle.sb_run.specs.WriteRequests.{beat_write}

-- what putting the write of the beat leaves, with some answer
abbrev pub IsBeatPut : {L : Type 0} → (L → Log) → Node → Option Beat → L → Option Committed → Seat → L → Option Committed → Seat → Type 0
IsBeatPut seen opening None old owed before new owes after = ⊥
IsBeatPut seen opening (Some beat) old owed before new owes after =
    (answer : Result Stored Fault) × IsPut seen opening old owed before (beat_write beat).key (beat_write beat).slot new owes after answer

-- the write of the beat is put, or all stays as it was
abbrev pub MakesBeat : {L : Type 0} → (L → Log) → Node → Option Beat → L → Option Committed → Seat → L → Option Committed → Seat → Type 0
MakesBeat seen opening beat old owed before new owes after =
    ((new ≡ old) × (owes ≡ owed) × (after ≡ before)) ⊎ IsBeatPut seen opening beat old owed before new owes after
