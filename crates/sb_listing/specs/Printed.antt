-- Changes as plain data, and what is printed for them.
use Rattle.std.specs.Prelude.{ℕ, List, [], ◌∷◌, ◌++◌, codes}
use Rattle.std.specs.List.{flat_map}
use Rattle.sb_query.specs.Printed.{row_line}
use Rattle.sb_listing.specs.declared.changing.RowChange as rust
use Rattle.sb_listing.specs.declared.changing.RowChange.TheVariants as lent
use Rattle.sb_listing.specs.Changes.{RowChange, Set, Gone}

abbrev pub change_of : rust.RowChange → RowChange
change_of (lent.Set row) = Set row.now
change_of (lent.Gone row) = Gone row.now

-- a row that is set is printed as its line, and one that is gone as its owner and key
abbrev pub change_line : RowChange → List ℕ
change_line (Set row) = codes "set" ++ 32 ∷ row_line row
change_line (Gone row) = codes "gone" ++ 32 ∷ (row.owner ++ 32 ∷ (row.key ++ 10 ∷ []))

abbrev pub printed_line : rust.RowChange → List ℕ
printed_line change = change_line (change_of change)

abbrev pub printed_lines : List rust.RowChange → List ℕ
printed_lines changes = flat_map printed_line changes
