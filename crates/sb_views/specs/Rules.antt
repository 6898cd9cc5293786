-- The rule of a history, and the right to set its length.
use Rattle.std.specs.Prelude.{ℕ, ◌≡◌, true, List, [], ◌∷◌, length}
use Rattle.logbook.specs.Pages.{Cell, Book, nib, may_make_home}
use Rattle.logbook.specs.declared.tokens.Pen.{Pen}
use Rattle.sb_views.specs.declared.event.Event.{Event}

-- the first cell is the length of the history. A book has two cells, and this one leaves the second at 0
abbrev pub IsKept : List Cell → List Event → Type 0
IsKept cells log = cells ≡ (length log, true) ∷ (0, true) ∷ []

-- the pen is the right to set the first cell of this book, which holds n
abbrev pub HasLength : Book → Pen → ℕ → Type 0
HasLength history pen n = (pen.book ≡ history) × (pen.nib ≡ nib may_make_home 0 n)
