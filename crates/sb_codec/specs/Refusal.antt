-- What the reading of a part returns.
use Rattle.std.specs.Prelude.{◌≡◌, ℕ, List, Option, Some, None, Result, Ok, Err}
use Rattle.sb_types.specs.declared.fault.Fault.{Fault}
use Rattle.sb_types.specs.declared.fault.Fault.TheVariants.{NoMemory}
use Rattle.sb_codec.specs.declared.refusal.Refusal.{Refusal}
use Rattle.sb_codec.specs.declared.refusal.Refusal.TheVariants.{Memory, Malformed}

-- nothing could be read, unless there was no memory
abbrev pub Fails : {Y : Type 0} → Refusal → Option Y → Type 0
Fails Memory read = Unit {0}
Fails Malformed read = read ≡ None

-- the result (as `view` shows it) and the bytes after it are what could be read, unless there was no memory
abbrev pub Reads : {X Y : Type 0} → (X → Y) → Option (Y × List ℕ) → Result X Refusal → List ℕ → Type 0
Reads view read (Ok x) rest = read ≡ Some (view x, rest)
Reads view read (Err refusal) rest = Fails refusal read

-- the same for a part that takes no memory: it is refused only if nothing can be read
abbrev pub ReadsWithoutMemory : {X Y : Type 0} → (X → Y) → Option (Y × List ℕ) → Result X Refusal → List ℕ → Type 0
ReadsWithoutMemory view read (Ok x) rest = read ≡ Some (view x, rest)
ReadsWithoutMemory view read (Err refusal) rest = (refusal ≡ Malformed) × (read ≡ None)

-- a value that a test refused is malformed
abbrev pub refusal_of : Fault → Refusal
refusal_of NoMemory = Memory
refusal_of _ = Malformed

-- the result is what could be read from all bytes, unless there was no memory
abbrev pub ReadsWhole : {X : Type 0} → Option X → Result X Refusal → Type 0
ReadsWhole read (Ok x) = read ≡ Some x
ReadsWhole read (Err refusal) = Fails refusal read
