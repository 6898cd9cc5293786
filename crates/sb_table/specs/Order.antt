-- Entries in the order of their keys.
use Rattle.std.specs.Prelude.{◌≡◌, ℕ, true, List, [], ◌∷◌, nat_eq, filter, if◌then◌else◌}
use Rattle.std.specs.List.{starts_with}
use Rattle.sb_types.specs.Limits.{text_lt}
use Rattle.sb_types.specs.Records.{Entry}
use Rattle.sb_types.specs.Runs.{Stands}

-- the entry, inserted after the entries of lesser keys
abbrev pub put_by_key : Entry → List Entry → List Entry
put_by_key e [] = e ∷ []
put_by_key e (x ∷ xs) = if text_lt x.key e.key then x ∷ put_by_key e xs else e ∷ x ∷ xs

-- the entries in ascending order of their keys
abbrev pub by_key : List Entry → List Entry
by_key [] = []
by_key (e ∷ es) = put_by_key e (by_key es)

-- the entries whose keys begin with the prefix
abbrev pub entries_with_prefix : List ℕ → List Entry → List Entry
entries_with_prefix prefix entries = filter (λ entry. starts_with nat_eq entry.key prefix) entries

-- each key is below those after it
abbrev pub IsRising : List Entry → Type 0
IsRising [] = Unit {0}
IsRising (x ∷ xs) = ((y : Entry) → Stands xs y → text_lt x.key y.key ≡ true) × IsRising xs
