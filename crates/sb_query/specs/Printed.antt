-- What is printed for a page.
use Rattle.std.specs.Prelude.{ℕ, List, [], ◌∷◌, ◌++◌, decimal}
use Rattle.std.specs.List.{flat_map}
use Rattle.sb_types.specs.Value.{line_of}
use Rattle.sb_codec.specs.Records.{Row}

-- owner, key, version and the two words of the value, with spaces between, and the end of the line
abbrev pub row_line : Row → List ℕ
row_line r = r.owner ++ 32 ∷ (r.key ++ 32 ∷ (decimal r.version ++ 32 ∷ (line_of r.value ++ 10 ∷ [])))

-- the line of each row
abbrev pub printed_rows : List Row → List ℕ
printed_rows rows = flat_map row_line rows
