-- The reads of a run: how many it made, and what its faults say about them.
use Rattle.std.specs.Prelude.{◌≡◌, ℕ, ◌+◌, ◌<◌, ◌≤◌, Bool, true, false}
use Rattle.sb_types.specs.declared.fault.Fault.{Fault}
use Rattle.sb_types.specs.declared.fault.Fault.TheVariants.{NoMemory, ReadFailed, WriteFailed, TurnsSpent}

-- each read is one step more, and one read less that is left
pub record AreCounted (steps left steps' left' : ℕ) : Type 0 where
  pub sum : steps' + left' ≡ steps + left
  pub fewer : left' ≤ left

abbrev pub is_run_fault : Fault → Bool
is_run_fault NoMemory = true
is_run_fault ReadFailed = true
is_run_fault (WriteFailed count) = true
is_run_fault TurnsSpent = true
is_run_fault _ = false

-- the faults that a run can have before its first read
abbrev pub comes_before_reads : Fault → Bool
comes_before_reads NoMemory = true
comes_before_reads TurnsSpent = true
comes_before_reads _ = false

-- A fault of a run is one of these four. A read failed only if the run made one. The reads are spent only if it made as many as are
-- allowed.
pub record IsRunFault (steps steps' allowed : ℕ) (fault : Fault) : Type 0 where
  pub kind : is_run_fault fault ≡ true
  pub read : fault ≡ ReadFailed → steps < steps'
  pub spent : fault ≡ TurnsSpent → steps' ≡ steps + allowed

-- a failed write reports how many bytes were written
abbrev pub TellsTaken : ℕ → Fault → Type 0
TellsTaken taken fault = (count : ℕ) → fault ≡ WriteFailed count → count ≡ taken
