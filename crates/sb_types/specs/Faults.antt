-- The numbers of faults, and the result of a call that may find no memory.
use Rattle.std.specs.Prelude.{◌≡◌, ◌≢◌, ℕ, Result, Ok, Err}
use Rattle.sb_types.specs.declared.fault.Fault.{Fault}
use Rattle.sb_types.specs.declared.fault.Fault.TheVariants.{NoMemory, BadName, BadKey, BadValue, BadSetting, TableFull, OwnersFull, VersionsSpent, NothingThere, BadMark, BadVersion, BadLength, UnknownKind, Malformed, Closed, ReadFailed, WriteFailed, StoreFailed, LogDamaged, WrongOwner, OwnerConflict, NoHello, WrongCluster, SameName, SecondHello, NoWatch, WatchesFull, Truncated, TurnsSpent, FloorTooHigh, OutOfTurn}

abbrev pub number_of : Fault → ℕ
number_of NoMemory = 1
number_of BadName = 2
number_of BadKey = 3
number_of BadValue = 4
number_of BadSetting = 5
number_of TableFull = 6
number_of OwnersFull = 7
number_of VersionsSpent = 8
number_of NothingThere = 9
number_of BadMark = 10
number_of BadVersion = 11
number_of BadLength = 12
number_of (UnknownKind kind) = 13
number_of (Malformed kind) = 14
number_of Closed = 15
number_of ReadFailed = 16
number_of (WriteFailed count) = 17
number_of StoreFailed = 18
number_of LogDamaged = 19
number_of WrongOwner = 20
number_of (OwnerConflict version) = 21
number_of NoHello = 22
number_of WrongCluster = 23
number_of SameName = 24
number_of SecondHello = 25
number_of NoWatch = 26
number_of WatchesFull = 27
number_of Truncated = 28
number_of TurnsSpent = 29
number_of FloorTooHigh = 30
number_of (OutOfTurn version) = 31

-- what a fault carries besides its number; 0 if it carries nothing
abbrev pub carried_by : Fault → ℕ
carried_by (UnknownKind kind) = kind
carried_by (Malformed kind) = kind
carried_by (WriteFailed count) = count
carried_by (OwnerConflict version) = version
carried_by (OutOfTurn version) = version
carried_by other = 0

-- the result is the wanted one, unless there was no memory
abbrev pub Gives : {X : Type 0} → Result X Fault → Result X Fault → Type 0
Gives (Ok x) want = want ≡ Ok x
Gives (Err fault) want = fault ≢ NoMemory → want ≡ Err fault
