-- Why the store of a log failed, and why a log is not opened.
use Rattle.std.specs.Prelude.{◌≡◌, ◌≢◌, ◌⊎◌, ⊤, ℕ, ◌==◌, if◌then◌else◌, Bool, true, false, Option, Some, None, IsSome, unwrap_or, Result, IfErr, refl}
use Rattle.std.specs.Coded.{Coded, code_by, coded_ℕ}
use Rattle.sqlite.specs.declared.error.Error.{Error}
use Rattle.sqlite.specs.declared.error.Error.TheVariants.{SqliteFailure}
use Rattle.sqlite.specs.declared.error.ErrorCode.TheVariants as code
use Rattle.sb_types.specs.declared.fault.Fault as faults
use Rattle.sb_types.specs.declared.fault.Fault.TheVariants as fault
use Rattle.sb_types.specs.declared.fault.Fault.TheVariants.{StoreFailed, LogDamaged}
use Rattle.sb_log.specs.declared.cause.StoreCause.{StoreCause}
use Rattle.sb_log.specs.declared.cause.StoreCause.TheVariants.{NoSpace, CannotOpen, Locked, Io, Damaged, NoMemory, Other}
use Rattle.sb_log.specs.declared.cause.LogError.{LogError}
use Rattle.sb_log.specs.declared.cause.LogError.TheVariants.{Store, Fault}

-- what an error of the database says
abbrev pub cause_of : Error → StoreCause
cause_of (SqliteFailure code.DiskFull) = NoSpace
cause_of (SqliteFailure code.CannotOpen) = CannotOpen
cause_of (SqliteFailure code.DatabaseBusy) = Locked
cause_of (SqliteFailure code.SystemIoFailure) = Io
cause_of (SqliteFailure code.DatabaseCorrupt) = Damaged
cause_of (SqliteFailure code.NotADatabase) = Damaged
cause_of (SqliteFailure code.OutOfMemory) = NoMemory
cause_of _ = Other

abbrev pub fault_of : LogError → faults.Fault
fault_of (Store cause) = StoreFailed
fault_of (Fault fault) = fault

abbrev pub cause_in : LogError → Option StoreCause
cause_in (Store cause) = Some cause
cause_in (Fault fault) = None

-- a cause has a number
abbrev pub number_of : StoreCause → ℕ
number_of NoSpace = 1
number_of CannotOpen = 2
number_of Locked = 3
number_of Io = 4
number_of Damaged = 5
number_of NoMemory = 6
number_of Other = 7

abbrev pub cause_numbered : ℕ → Option StoreCause
cause_numbered n =
    if n == 1 then Some NoSpace
    else (if n == 2 then Some CannotOpen
    else (if n == 3 then Some Locked
    else (if n == 4 then Some Io
    else (if n == 5 then Some Damaged
    else (if n == 6 then Some NoMemory
    else (if n == 7 then Some Other else None))))))

abbrev pub cause_again : (cause : StoreCause) → unwrap_or (cause_numbered (number_of cause)) Other ≡ cause
cause_again NoSpace = refl
cause_again CannotOpen = refl
cause_again Locked = refl
cause_again Io = refl
cause_again Damaged = refl
cause_again NoMemory = refl
cause_again Other = refl

-- it is stored as that
abbrev pub cause_code : Coded StoreCause
cause_code = code_by ℕ coded_ℕ number_of (λ n. unwrap_or (cause_numbered n) Other) cause_again

-- the store failed, memory was missing, or the rows are not those of a table
abbrev pub IsReadingFault : LogError → Type 0
IsReadingFault (Store cause) = ⊤
IsReadingFault (Fault met) = (met ≡ fault.NoMemory) ⊎ (met ≡ LogDamaged)

-- the rows were not taken for damage
abbrev pub IsUndamaged : {A : Type 0} → Result A LogError → Type 0
IsUndamaged result = IfErr result (λ e. fault_of e ≢ LogDamaged)

-- the store did not fail
abbrev pub IsAnswer : {A : Type 0} → Result A LogError → Type 0
IsAnswer result = IfErr result (λ e. fault_of e ≢ StoreFailed)

-- this holds if there is a fault that is not the store's
abbrev pub OnRefusal : {A : Type 0} → Result A LogError → Type 0 → Type 0
OnRefusal result P = IfErr result (λ e. fault_of e ≢ StoreFailed → P)

-- the store failed
abbrev pub IsStoreError : LogError → Type 0
IsStoreError (Store cause) = ⊤
IsStoreError (Fault fault) = ⊥

-- the store failed, or there are other tables than a log's
abbrev pub IsMakingFault : LogError → Type 0
IsMakingFault (Store cause) = ⊤
IsMakingFault (Fault fault) = fault ≡ LogDamaged

-- a log has a cause just if it is closed
abbrev pub IsCausedBy : Bool → Option StoreCause → Type 0
IsCausedBy is_open cause = (is_open ≡ true → cause ≡ None) × (is_open ≡ false → IsSome cause)
