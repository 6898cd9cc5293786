-- Parts of a request's target.
use Rattle.std.specs.Prelude.{ℕ, ◌+◌, Bool, ◌==◌, if◌then◌else◌, List, [], ◌∷◌, take, drop, Option, Some, None}
use Rattle.std.specs.List.{position}

abbrev pub is_byte : ℕ → ℕ → Bool
is_byte mark b = b == mark

-- what is before a place, and what is after it
abbrev pub parted_at : List ℕ → Option ℕ → Option (List ℕ × List ℕ)
parted_at text None = None
parted_at text (Some place) = Some (take place text, drop (place + 1) text)

-- the text before the first such byte, and the text after it
abbrev pub parted : ℕ → List ℕ → Option (List ℕ × List ℕ)
parted mark text = parted_at text (position (is_byte mark) text)

-- the byte before the first of the parts
abbrev pub begun_by : ℕ → List (List ℕ) → List (List ℕ)
begun_by b [] = (b ∷ []) ∷ []
begun_by b (part ∷ parts) = (b ∷ part) ∷ parts

-- the parts of a text that such bytes part: one more than there are such bytes
abbrev pub all_parts : ℕ → List ℕ → List (List ℕ)
all_parts mark [] = [] ∷ []
all_parts mark (b ∷ bs) = if b == mark then [] ∷ all_parts mark bs else begun_by b (all_parts mark bs)
