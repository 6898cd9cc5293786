use Rattle.std.proofs.Common.{◌≡◌, ℕ, List, [], ◌∷◌, ◌++◌, refl, ap, append_assoc, codes, decimal}
use Rattle.std.specs.List.{flat_map}
use Rattle.sb_types.specs.Records.{Entry, Table}
use Rattle.sb_table.specs.Order.{by_key, entries_with_prefix}
use Rattle.sb_lines.specs.Printed.{entry_line, log_text}

-- every key begins with nothing
pub under_nothing : (entries : List Entry) → entries_with_prefix [] entries ≡ entries
under_nothing [] = refl
under_nothing (e ∷ es) = ap (λ rest. e ∷ rest) (under_nothing es)

-- the lines of all entries, and behind them the last one
pub all_lines : (owner : List ℕ) (t : Table) (lines begun all : List ℕ) (number : ℕ)
    → lines ≡ flat_map (entry_line owner) (by_key (entries_with_prefix [] t.entries))
    → begun ≡ lines ++ (codes "last" ++ 32 ∷ []) → all ≡ begun ++ (decimal number ++ 10 ∷ []) → number ≡ t.held
    → all ≡ log_text owner t
all_lines owner t lines begun all number e b a n =
    rw (a, b, e, n, under_nothing t.entries)
    (append_assoc (flat_map (entry_line owner) (by_key t.entries)) (codes "last" ++ 32 ∷ []) (decimal t.held ++ 10 ∷ []))
