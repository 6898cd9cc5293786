-- Which faults come of which calls.
use Rattle.std.proofs.Common.{◌≡◌, ◌≢◌, ◌⊎◌, ℕ, true, inl, inr, refl, ap}
use Rattle.sb_types.specs.declared.fault.Fault.{Fault}
use Rattle.sb_types.specs.declared.fault.Fault.TheVariants.{NoMemory, BadName, BadValue, WriteFailed}
use Rattle.sb_script.specs.Faults.{is_word_fault, is_world_fault, is_line_fault}
use Rattle.sb_script.specs.Reads.{TellsTaken}

-- of the words of a value
pub value_fault : (fault : Fault) → (fault ≢ NoMemory → fault ≡ BadValue) → is_word_fault fault ≡ true
value_fault NoMemory given = refl
value_fault _ given = ap is_word_fault (given (λ e. absurd (cc)))

-- of names
pub name_fault : (fault : Fault) → (fault ≡ BadName) ⊎ (fault ≡ NoMemory) → is_world_fault fault ≡ true
name_fault fault (inl e) = ap is_world_fault e
name_fault fault (inr e) = ap is_world_fault e

-- no failed write is met on the way to the next line
pub line_tells : (taken : ℕ) (fault : Fault) → is_line_fault fault ≡ true → TellsTaken taken fault
line_tells taken fault kind = λ count e. absurd cc (ap is_line_fault e, kind)

-- a failed write tells what it is to tell
pub write_tells : (taken : ℕ) (fault : Fault) → fault ≡ WriteFailed taken → TellsTaken taken fault
write_tells taken fault same = λ count e. cc (e, same)
