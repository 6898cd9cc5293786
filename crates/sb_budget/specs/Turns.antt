-- What owners offer, in turns.
use Rattle.std.specs.Prelude.{ℕ, zero, suc, List, [], ◌∷◌, ◌++◌, length}
use Rattle.sb_budget.specs.declared.offered.Offered.{Offered}
use Rattle.sb_budget.specs.declared.turns.Turns.{Turns}
use Rattle.sb_budget.specs.declared.turns.Turns.TheVariants as turns
use Rattle.sb_budget.specs.Parts.{Part, all_of}

-- the owners after one of them had its turn: what it has left goes before the others, or after them
abbrev pub parts_after_turn : Turns → List Part → List Offered → List Part
parts_after_turn turn others [] = others
parts_after_turn turns.First others (o ∷ os) = record { next = o; later = os } ∷ others
parts_after_turn turns.Last others (o ∷ os) = others ++ record { next = o; later = os } ∷ []

-- the first n items
abbrev pub first_turns : Turns → ℕ → List Part → List Offered
first_turns turn zero owners = []
first_turns turn (suc n) [] = []
first_turns turn (suc n) (p ∷ others) = p.next ∷ first_turns turn n (parts_after_turn turn others p.later)

-- all of them: each turn takes the next item of the first owner
abbrev pub in_turns : Turns → List Part → List Offered
in_turns turn owners = first_turns turn (length (all_of owners)) owners
