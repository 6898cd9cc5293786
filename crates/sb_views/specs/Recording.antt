-- What adding to a log asks, where its length lies in no word.
use Rattle.std.specs.Prelude.{◌≡◌, ℕ, ◌+◌, ◌<◌, true, List, ◌++◌, length, slice_set}
use mathlib.Core.List.{IsPrefix}
use Rattle.logbook.specs.Pages.{Cell, cell}

-- Whatever the log and its cells are, the cell k is at home. If it holds n, the log is all that was seen, and the rule still holds once
-- there is more of the log, and as much more in the cell.
abbrev pub Lengthens : {E : Type 0} → (List Cell → List E → Type 0) → (List E → List E) → ℕ → ℕ → List E → List E → Type 0
Lengthens {E} holds shows k n seen more = (cells : List Cell) (log : List E) → holds cells log → IsPrefix seen log → (k < length cells) × ((cell cells k).1 ≡ true)
    × ((cell cells k).0 ≡ n → (log ≡ seen) × holds (slice_set cells k (n + length more, true)) (log ++ more) × (shows (log ++ more) ≡ shows log))

-- the rule holds of this log, and the cell k holds n then
abbrev pub StandsAt : {E : Type 0} → (List Cell → List E → Type 0) → ℕ → ℕ → List E → Type 0
StandsAt {E} holds k n log = (cells : List Cell) × holds cells log × ((cell cells k).0 ≡ n)
