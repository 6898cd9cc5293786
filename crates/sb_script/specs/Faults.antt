-- Which faults a line can have.
use Rattle.std.specs.Prelude.{Bool, true, false}
use Rattle.sb_types.specs.declared.fault.Fault.{Fault}
use Rattle.sb_types.specs.declared.fault.Fault.TheVariants.{NoMemory, BadName, BadKey, BadValue, BadSetting, ReadFailed, SameName, TurnsSpent}

-- faults of a command: a word is not a name, a key or a value, or memory was missing
abbrev pub is_word_fault : Fault → Bool
is_word_fault NoMemory = true
is_word_fault BadName = true
is_word_fault BadKey = true
is_word_fault BadValue = true
is_word_fault _ = false

-- faults of a line that makes a world of logs in memory
abbrev pub is_world_fault : Fault → Bool
is_world_fault NoMemory = true
is_world_fault BadName = true
is_world_fault BadSetting = true
is_world_fault SameName = true
is_world_fault _ = false

-- faults on the way to the next line
abbrev pub is_line_fault : Fault → Bool
is_line_fault NoMemory = true
is_line_fault ReadFailed = true
is_line_fault TurnsSpent = true
is_line_fault _ = false
