-- Every fault has a number that an answer may give.
use Rattle.std.proofs.Common.{◌≡◌, true, refl}
use Rattle.sb_types.specs.declared.fault.Fault.{Fault}
use Rattle.sb_types.specs.declared.fault.Fault.TheVariants.{
  NoMemory,
  BadName,
  BadKey,
  BadValue,
  BadSetting,
  TableFull,
  OwnersFull,
  VersionsSpent,
  NothingThere,
  BadMark,
  BadVersion,
  BadLength,
  UnknownKind,
  Malformed,
  Closed,
  ReadFailed,
  WriteFailed,
  StoreFailed,
  LogDamaged,
  WrongOwner,
  OwnerConflict,
  NoHello,
  WrongCluster,
  SameName,
  SecondHello,
  NoWatch,
  WatchesFull,
  Truncated,
  TurnsSpent,
  FloorTooHigh,
  OutOfTurn,
}
use Rattle.sb_types.specs.Faults.{number_of}
use Rattle.sb_codec.specs.Limits.{is_fault_number}

pub are_numbers : (fault : Fault) → is_fault_number (number_of fault) ≡ true
are_numbers NoMemory = refl
are_numbers BadName = refl
are_numbers BadKey = refl
are_numbers BadValue = refl
are_numbers BadSetting = refl
are_numbers TableFull = refl
are_numbers OwnersFull = refl
are_numbers VersionsSpent = refl
are_numbers NothingThere = refl
are_numbers BadMark = refl
are_numbers BadVersion = refl
are_numbers BadLength = refl
are_numbers (UnknownKind kind) = refl
are_numbers (Malformed kind) = refl
are_numbers Closed = refl
are_numbers ReadFailed = refl
are_numbers (WriteFailed count) = refl
are_numbers StoreFailed = refl
are_numbers LogDamaged = refl
are_numbers WrongOwner = refl
are_numbers (OwnerConflict version) = refl
are_numbers NoHello = refl
are_numbers WrongCluster = refl
are_numbers SameName = refl
are_numbers SecondHello = refl
are_numbers NoWatch = refl
are_numbers WatchesFull = refl
are_numbers Truncated = refl
are_numbers TurnsSpent = refl
are_numbers FloorTooHigh = refl
are_numbers (OutOfTurn version) = refl
