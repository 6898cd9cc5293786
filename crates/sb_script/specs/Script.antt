-- What is left of a script while it is read, and the status that its end gives.
use Rattle.std.specs.Prelude.{◌≡◌, ℕ, ◌+◌, ◌-◌, ◌*◌, ◌<◌, Bool, true}
use Rattle.sb_script.specs.declared.sim.Ending.{Ending}
use Rattle.sb_script.specs.declared.sim.Ending.TheVariants.{Whole, WrongLine, NoWorld}

-- the most bytes that can still come: those that were read and not taken, and what the reads that are left can give
abbrev pub bytes_to_come : ℕ → ℕ → ℕ → ℕ
bytes_to_come reads at end = reads * 65536 + (end - at)

-- How a script ends: by whether its reader came to the end, how many bytes of a line wait, and the bytes to come before and after. It is
-- whole only if the reader came to the end and no line waits. Otherwise it ends at a line, which takes some bytes.
abbrev pub EndsSo : Ending → Bool → ℕ → ℕ → ℕ → Type 0
EndsSo Whole ended waiting before after = (ended ≡ true) × (waiting ≡ 0)
EndsSo WrongLine ended waiting before after = after < before
EndsSo NoWorld ended waiting before after = after < before

abbrev pub status_of : Ending → ℕ
status_of Whole = 0
status_of WrongLine = 2
status_of NoWorld = 3
