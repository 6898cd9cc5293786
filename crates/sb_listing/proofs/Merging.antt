-- The steps of a merge.
use Rattle.std.proofs.Common.{◌≡◌, ℕ, ◌≤◌, List, [], ◌∷◌, ◌++◌, length, map, refl, sym, ap, ◌∙◌, append_assoc, arith}
use Rattle.std.proofs.lemmas.List.{map-append}
use Rattle.std.specs.declared.cmp.Ordering.TheVariants.{Less, Equal, Greater}
use Rattle.sb_codec.specs.Records.{Row}
use Rattle.sb_listing.specs.declared.changing.RowChange as rust
use Rattle.sb_listing.specs.Changes.{RowChange, Set, Gone, place_order, changes_at, changes_past_row}
use Rattle.sb_listing.specs.Printed.{change_of}

pub change_of-push : (found : List rust.RowChange) (c : rust.RowChange) (rest : List RowChange) → map change_of (found ++ c ∷ []) ++ rest ≡ map change_of found ++ (change_of c ∷ rest)
change_of-push found c rest = ap (λ (cs : List RowChange). cs ++ rest) (map-append change_of found (c ∷ [])) ∙ append_assoc (map change_of found) (change_of c ∷ []) rest

module _ (x y : Row) (xs : List Row) (next : List Row → List RowChange) where
  pub passing-less : place_order x y ≡ Less → changes_past_row y next (x ∷ xs) ≡ Gone x ∷ changes_past_row y next xs
  passing-less is = rw is refl

  pub passing-equal : place_order x y ≡ Equal → changes_past_row y next (x ∷ xs) ≡ changes_at x y ++ next xs
  passing-equal is = rw is refl

  pub passing-greater : place_order x y ≡ Greater → changes_past_row y next (x ∷ xs) ≡ Set y ∷ next (x ∷ xs)
  passing-greater is = rw is refl
