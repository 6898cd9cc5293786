-- What a whole run of a script prints.
use Rattle.std.specs.Prelude.{◌≡◌, ◌⊎◌, ℕ, zero, suc, List, Option, true}
use Rattle.std.specs.Io.KnownBytes.{Appends, Keeps}
use Rattle.sb_types.specs.declared.fault.Fault.{Fault}
use Rattle.sb_world.specs.Places.{Seen}
use Rattle.sb_script.specs.declared.making.WorldLine.{WorldLine}
use Rattle.sb_script.specs.declared.sim.Detail.{Detail}
use Rattle.sb_script.specs.declared.sim.Detail.TheVariants.{Plain, Explained}
use Rattle.sb_script.specs.declared.sim.Ending.{Ending}
use Rattle.sb_script.specs.declared.sim.Ending.TheVariants.{Whole, WrongLine, NoWorld}
use Rattle.sb_script.specs.Faults.{is_world_fault}
use Rattle.sb_script.specs.Making.{IsWorldOf}
use Rattle.sb_script.specs.Played.{PlaysLine}
use Rattle.sb_script.specs.Printed.{fault_line, wrong_line}

-- after the answer of a line come words, only if they are asked for
abbrev pub Explains : Detail → Option (List ℕ) → Option (List ℕ) → Type 0
Explains Plain before after = Keeps before after
Explains Explained before after = (words : List ℕ) × Appends before after words

-- a command is played, and explained
abbrev pub PlaysNext : Detail → Seen → Option (List ℕ) → Option (List ℕ) → Seen → Type 0
PlaysNext detail old before after new = (between : Option (List ℕ)) × PlaysLine true old before between new × Explains detail between after

-- so many commands are played, one after another
abbrev pub PlaysLines : Detail → ℕ → Seen → Option (List ℕ) → Option (List ℕ) → Seen → Type 0
PlaysLines detail zero old before after new = (new ≡ old) × Keeps before after
PlaysLines detail (suc n) old before after new =
    (mid : Seen) × (between : Option (List ℕ)) × PlaysLines detail n old before between mid × PlaysNext detail mid between after new

-- The last line: a whole script has none. Any other ends at a line that is not a command, or at a fault of the world line.
abbrev pub EndsAt : Ending → Option (List ℕ) → Option (List ℕ) → Type 0
EndsAt Whole before after = Keeps before after
EndsAt WrongLine before after = (number : ℕ) × Appends before after (wrong_line number)
EndsAt NoWorld before after = (fault : Fault) × (is_world_fault fault ≡ true) × Appends before after (fault_line fault)

-- commands are played in turn from this world on, and then the run ends
abbrev pub TellsFrom : Seen → Ending → Detail → Option (List ℕ) → Option (List ℕ) → Type 0
TellsFrom old ending detail before after =
    (count : ℕ) × (new : Seen) × (between : Option (List ℕ)) × PlaysLines detail count old before between new × EndsAt ending between after

-- the run ends before there is a world, or plays commands in the one that its first line makes
abbrev pub Tells : Ending → Detail → Option (List ℕ) → Option (List ℕ) → Type 0
Tells ending detail before after =
    EndsAt ending before after ⊎ ((line : WorldLine) × (world : Seen) × IsWorldOf line world × TellsFrom world ending detail before after)
