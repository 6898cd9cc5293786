-- What changed from one listing of rows to the next.
use Rattle.std.specs.Prelude.{◌≡◌, Bool, true, false, ◌&&◌, ◌==◌, not, if◌then◌else◌, List, [], ◌∷◌, ◌++◌, map}
use Rattle.std.specs.List.{list_any, AllByRecursion}
use Rattle.std.specs.Ordering.{nat_cmp, is_eq, ordering_then, match_ordering}
use Rattle.std.specs.declared.cmp.Ordering.{Ordering}
use Rattle.std.specs.declared.cmp.Ordering.TheVariants.{Less}
use Rattle.std.specs.Cmp.Lexicographic.{slice_cmp}
use Rattle.sb_types.specs.Kinds.{is_same_value}
use Rattle.sb_codec.specs.Records.{Row}

pub data RowChange : Type 0 where
  Set : Row → RowChange
  Gone : Row → RowChange

-- the order by owner and then by key
abbrev pub place_order : Row → Row → Ordering
place_order x y = ordering_then (slice_cmp nat_cmp x.owner y.owner) (slice_cmp nat_cmp x.key y.key)

-- one version and one value
abbrev pub is_same : Row → Row → Bool
is_same x y = (x.version == y.version) && is_same_value x.value y.value

-- one owner and one key
abbrev pub is_at : Row → Row → Bool
is_at x y = is_eq (place_order x y)

-- the earlier listing has no such row
abbrev pub is_new : List Row → Row → Bool
is_new earlier y = not (list_any (λ x. is_at x y && is_same x y) earlier)

-- the later listing has no row of this owner and key
abbrev pub is_gone : List Row → Row → Bool
is_gone later x = not (list_any (is_at x) later)

-- each row comes before all rows after it
abbrev pub AreAscending : List Row → Type 0
AreAscending [] = Unit {0}
AreAscending (x ∷ xs) = AllByRecursion (λ y. place_order x y ≡ Less) xs × AreAscending xs

-- what is reported if a row of the later listing is at the place of one of the earlier listing
abbrev pub changes_at : Row → Row → List RowChange
changes_at x y = if is_same x y then [] else Set y ∷ []

-- the rows of the earlier listing up to the place of y, then y, and then what comes of the rows after it
abbrev pub changes_past_row : Row → (List Row → List RowChange) → List Row → List RowChange
changes_past_row y next [] = Set y ∷ next []
changes_past_row y next (x ∷ xs) = match_ordering (place_order x y) (Gone x ∷ changes_past_row y next xs) (changes_at x y ++ next xs) (Set y ∷ next (x ∷ xs))

-- one walk through both listings
abbrev pub changes_between : List Row → List Row → List RowChange
changes_between earlier [] = map Gone earlier
changes_between earlier (y ∷ ys) = changes_past_row y (λ rest. changes_between rest ys) earlier

abbrev pub set_rows : List RowChange → List Row
set_rows [] = []
set_rows (Set y ∷ cs) = y ∷ set_rows cs
set_rows (Gone x ∷ cs) = set_rows cs

abbrev pub gone_rows : List RowChange → List Row
gone_rows [] = []
gone_rows (Set y ∷ cs) = gone_rows cs
gone_rows (Gone x ∷ cs) = x ∷ gone_rows cs
