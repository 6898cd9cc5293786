-- The greatest version that digests speak of an owner.
use Rattle.std.specs.Prelude.{ℕ, nat_eq, if◌then◌else◌, List, [], ◌∷◌, max}
use Rattle.std.specs.Cmp.Lexicographic.{pointwise}
use Rattle.sb_digest.specs.Digests.{Pair}

-- of the version that is held, the floor and the progress of a stage the greatest, where the pair is this owner's
abbrev pub version_in : List ℕ → Pair → ℕ
version_in owner pair = if pointwise nat_eq pair.owner owner then max (max pair.held pair.floor) pair.progress else 0

-- the greatest of all pairs
abbrev pub greatest_version : List ℕ → List Pair → ℕ
greatest_version owner [] = 0
greatest_version owner (pair ∷ pairs) = max (version_in owner pair) (greatest_version owner pairs)
