-- What a session asks of a handler, and what a run of its steps keeps.
use Rattle.std.specs.Prelude.{◌≡◌, ℕ, Bool, true, false, ◌⊎◌, List, Option, Result, Ok, Err}
use Rattle.sb_types.specs.declared.fault.Fault.{Fault}
use Rattle.sb_types.specs.declared.fault.Fault.TheVariants.{NoMemory, TurnsSpent}
use Rattle.sb_types.specs.Records.{Block}
use Rattle.sb_holdings.specs.declared.ends.BlockEnd.{BlockEnd}
use Rattle.sb_digest.specs.Digests.{Digest}

-- a call and its answer: the digest from a name on, and whether one is wanted in answer; the delta for a digest; the
-- ends of a delta's blocks
pub data Act : Type 0 where
  tells : Option (List ℕ) → Bool → Result Digest Fault → Act
  gives : Digest → Result (List Block) Fault → Act
  applies : List Block → Result (List BlockEnd) Fault → Act

-- only a delta that is applied enters anything; a refusal never does
abbrev pub may_enter : Act → Bool
may_enter (tells from want answer) = false
may_enter (gives digest answer) = false
may_enter (applies blocks (Ok ends)) = true
may_enter (applies blocks (Err fault)) = false

abbrev pub IsRefusal : Fault → Type 0
IsRefusal fault = (fault ≡ NoMemory) ⊎ (fault ≡ TurnsSpent)
