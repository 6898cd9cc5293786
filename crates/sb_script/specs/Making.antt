-- The world that a line makes.
use Rattle.std.specs.Prelude.{◌≡◌, ℕ, List, map, codes, IfSome}
use Rattle.sb_types.specs.Records.{Settings}
use Rattle.sb_log.specs.Records.{Log}
use Rattle.sb_log.specs.Puts.{new_log}
use Rattle.sb_world.specs.Places.{Place, Seen, place_at}
use Rattle.sb_world.specs.Making.{IsMade}
use Rattle.sb_script.specs.declared.making.WorldLine.{WorldLine}

-- the settings that the line gives, and those that are the same in each world of a script
abbrev pub settings_of : WorldLine → Settings
settings_of line = record { cluster = codes "sim"; budget = line.budget; order = line.order; max_version = line.max_version; seats = 1; workers = 1 }

-- the names that the line gives
abbrev pub names_in : WorldLine → List (List ℕ)
names_in line = map (λ word. word.now) line.names.now

-- the log of a node before its first write
abbrev pub empty_log : Settings → List ℕ → Log
empty_log settings name = new_log name settings.cluster settings.max_version

-- a node for each name of the line, in their order; each has just opened with an empty log
pub record IsWorldOf (line : WorldLine) (world : Seen) : Type 0 where
  pub settings : world.settings ≡ settings_of line
  pub names : map (λ (p : Place). p.me) world.places ≡ names_in line
  pub made : IsMade world
  pub empty : (name : List ℕ) → IfSome (place_at world.places name) (λ p. p.log ≡ empty_log world.settings p.me)
