-- Rows as they are lent, in order.
use Rattle.std.specs.Prelude.{◌≡◌, ◌++◌, ℕ, Bool, true, false, nat_eq, if◌then◌else◌, List, [], ◌∷◌, map, filter, flat_map, AllPairs, Option, Some, None}
use Rattle.std.specs.List.{starts_with}
use Rattle.std.specs.Option.{option_map}
use Rattle.std.specs.Ordering.{nat_cmp, is_lt, ordering_then}
use Rattle.std.specs.Cmp.Lexicographic.{pointwise, slice_cmp}
use Rattle.std.specs.FinMap.{entries, get}
use Rattle.sb_types.specs.Value.{Value}
use Rattle.sb_views.specs.declared.rows.LiveRow as rust
use Rattle.sb_views.specs.NodeViews.{OwnerView, NodeView}

-- an owner's value under a key, with the version of its write
pub record LiveRow : Type 0 where
  pub owner : List ℕ
  pub key : List ℕ
  pub value : Value
  pub version : ℕ

abbrev pub row_lent : rust.LiveRow → LiveRow
row_lent r = record { owner = r.owner.now; key = r.key.now; value = r.live.0; version = r.live.1 }

abbrev pub row_at : List ℕ → List ℕ × (Value × ℕ) → LiveRow
row_at owner p = record { owner = owner; key = p.0; value = p.1.0; version = p.1.1 }

-- an owner's rows under the keys that begin so
abbrev pub rows_under : List ℕ → List ℕ → OwnerView → List LiveRow
rows_under prefix owner owner_view = map (row_at owner) (filter (λ p. starts_with nat_eq p.0 prefix) (entries owner_view.rows))

-- the same of owners with their views, one after the other
abbrev pub rows_of_owners : List ℕ → List (List ℕ × OwnerView) → List LiveRow
rows_of_owners prefix owners = flat_map (λ p. rows_under prefix p.0 p.1) owners

abbrev pub is_wanted : Option (List ℕ) → List ℕ → Bool
is_wanted None owner = true
is_wanted (Some wanted) owner = pointwise nat_eq wanted owner

-- the rows of the wanted owner, or of all, under the keys that begin so: owner by owner, key by key
abbrev pub rows_in : Option (List ℕ) → List ℕ → NodeView → List LiveRow
rows_in wanted prefix view = rows_of_owners prefix (filter (λ p. is_wanted wanted p.0) (entries view))

-- whether the row stands behind the place, by owner and then by key; every row does where there is none
abbrev pub is_behind : Option (List ℕ × List ℕ) → LiveRow → Bool
is_behind None row = true
is_behind (Some place) row = is_lt (ordering_then (slice_cmp nat_cmp place.0 row.owner) (slice_cmp nat_cmp place.1 row.key))

-- those of them that stand behind the place
abbrev pub rows_behind : Option (List ℕ × List ℕ) → Option (List ℕ) → List ℕ → NodeView → List LiveRow
rows_behind place wanted prefix view = filter (is_behind place) (rows_in wanted prefix view)

abbrev pub place_of : LiveRow → List ℕ × List ℕ
place_of row = (row.owner, row.key)

-- each row stands behind those before it
abbrev pub AreAscending : List LiveRow → Type 0
AreAscending rows = AllPairs (λ x y. is_behind (Some (place_of x)) y ≡ true) rows

-- the rows of the owner itself behind the key, where it is wanted and there
abbrev pub rest_of : Option (List ℕ) → List ℕ → List ℕ → List ℕ → NodeView → Option (List LiveRow)
rest_of wanted prefix owner key view =
    if is_wanted wanted owner then option_map (λ owner_view. filter (is_behind (Some (owner, key))) (rows_under prefix owner owner_view)) (get view owner) else None

-- the first rows, as long as their keys begin so
abbrev pub live_rows_under : List ℕ → List ℕ → List (List ℕ × (Value × ℕ)) → List LiveRow
live_rows_under owner prefix [] = []
live_rows_under owner prefix (p ∷ ps) = if starts_with nat_eq p.0 prefix then row_at owner p ∷ live_rows_under owner prefix ps else []

-- those of the owner that is read, and then those of the owners behind
abbrev pub rows_to_come : List ℕ → Option (List LiveRow) → List (List ℕ × OwnerView) → List LiveRow
rows_to_come prefix None owners = rows_of_owners prefix owners
rows_to_come prefix (Some rows) owners = rows ++ rows_of_owners prefix owners

-- the first row is given and the others stay; nothing is given where there is none, and nothing is left
abbrev pub GivesFirst : List LiveRow → Option LiveRow → List LiveRow → Type 0
GivesFirst old None new = (old ≡ []) × (new ≡ [])
GivesFirst old (Some row) new = old ≡ row ∷ new
