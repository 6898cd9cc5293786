-- Which rows a watch keeps if it outlasts its node.
use Rattle.std.specs.Prelude.{ℕ, Bool, ◌&&◌, ◌||◌, nat_eq, nat_le, nat_lt, max, if◌then◌else◌, List, [], ◌∷◌, ◌++◌, map}
use Rattle.std.specs.List.{list_any}
use Rattle.std.specs.Cmp.Lexicographic.{pointwise}
use Rattle.std.specs.Ordering.{match_ordering}
use Rattle.sb_codec.specs.Records.{Row}
use Rattle.sb_listing.specs.Changes.{place_order, is_at}
use Rattle.sb_commands.specs.declared.reaches.OwnerReach.{OwnerReach}

abbrev pub is_of : List ℕ → OwnerReach → Bool
is_of owner r = pointwise nat_eq r.owner owner

-- of two reaches of one owner, the farther version of each kind
abbrev pub farther : OwnerReach → OwnerReach → OwnerReach
farther r s = record {
  owner = r.owner;
  shown = max r.shown s.shown;
  printed = max r.printed s.printed;
  gone = max r.gone s.gone;
  gone_before = max r.gone_before s.gone_before;
}

-- a reach as another one of its owner raises it
abbrev pub raised : OwnerReach → OwnerReach → OwnerReach
raised s r = if is_of s.owner r then farther r s else r

-- reaches after another one is noted
abbrev pub entered : List OwnerReach → OwnerReach → List OwnerReach
entered reaches s = if list_any (is_of s.owner) reaches then map (raised s) reaches else reaches ++ s ∷ []

-- the node was started again, and has shown nothing since; what went until then does not come back
abbrev pub unshown : OwnerReach → OwnerReach
unshown r = record { owner = r.owner; shown = 0; printed = r.printed; gone = r.gone; gone_before = r.gone }

-- the node has shown this owner at the version of this row or later, so it holds the write of this row
abbrev pub is_known : List OwnerReach → Row → Bool
is_known reaches x = list_any (λ r. is_of x.owner r && nat_le x.version r.shown) reaches

-- this owner was printed at the version of this row or later, and the node has not shown it as far yet
abbrev pub is_held_back : List OwnerReach → Row → Bool
is_held_back reaches x = list_any (λ r. is_of x.owner r && (nat_le x.version r.printed && nat_lt r.shown r.printed)) reaches

-- before the last start of the node a row of this owner went that had this version or a later one
abbrev pub is_outdated : List OwnerReach → Row → Bool
is_outdated reaches x = list_any (λ r. is_of x.owner r && nat_le x.version r.gone_before) reaches

-- of a printed row and one that was found, both of one owner and key: the one of the later version, unless the found one is held back
abbrev pub later_row : List OwnerReach → Row → Row → Row
later_row reaches x y = if nat_lt y.version x.version || (nat_lt x.version y.version && is_held_back reaches y) then x else y

-- a printed row before others, unless the node knows better
abbrev pub unless_known : List OwnerReach → Row → List Row → List Row
unless_known reaches x xs = if is_known reaches x then xs else x ∷ xs

-- a row that was found, and of whose key none is printed, before others, unless it is held back or outdated
abbrev pub unless_held_back : List OwnerReach → Row → List Row → List Row
unless_held_back reaches y ys = if is_held_back reaches y || is_outdated reaches y then ys else y ∷ ys

-- The printed rows up to the place of y, without those that the node knows better. Then y, and then what comes of the rows after it.
abbrev pub rows_past_row : List OwnerReach → Row → (List Row → List Row) → List Row → List Row
rows_past_row reaches y next [] = unless_held_back reaches y (next [])
rows_past_row reaches y next (x ∷ xs) = match_ordering (place_order x y)
    (unless_known reaches x (rows_past_row reaches y next xs))
    (later_row reaches x y ∷ next xs)
    (unless_held_back reaches y (next (x ∷ xs)))

-- those rows that the node does not know better
abbrev pub unknown_rows : List OwnerReach → List Row → List Row
unknown_rows reaches [] = []
unknown_rows reaches (x ∷ xs) = unless_known reaches x (unknown_rows reaches xs)

-- one walk through the rows that were printed and those that were found
abbrev pub rows_after : List OwnerReach → List Row → List Row → List Row
rows_after reaches held [] = unknown_rows reaches held
rows_after reaches held (y ∷ ys) = rows_past_row reaches y (λ rest. rows_after reaches rest ys) held

-- of two rows of one owner and key, the first is the earlier version
abbrev pub is_earlier : Row → Row → Bool
is_earlier y x = is_at x y && nat_lt y.version x.version

-- a later version of this row was printed
abbrev pub goes_back : List Row → Row → Bool
goes_back held y = list_any (is_earlier y) held

-- a row of this owner and key is printed
abbrev pub is_printed : List Row → Row → Bool
is_printed held y = list_any (λ x. is_at x y) held
