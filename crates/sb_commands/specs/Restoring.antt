-- Whose rows are restored, and behind which versions.
use Rattle.std.specs.Prelude.{Bool, ℕ, nat_eq, List, [], ◌∷◌, max}
use Rattle.std.specs.Cmp.Lexicographic.{pointwise}
use Rattle.std.specs.List.{list_all}
use Rattle.sb_codec.specs.Records.{Row}

-- the greatest of a version and those of rows
abbrev pub newest_of : ℕ → List Row → ℕ
newest_of heard [] = heard
newest_of heard (x ∷ xs) = newest_of (max heard x.version) xs

-- all rows are of this owner
abbrev pub are_of : List ℕ → List Row → Bool
are_of owner rows = list_all (λ x. pointwise nat_eq x.owner owner) rows
