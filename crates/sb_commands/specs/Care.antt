-- Which rows a careful watch shows.
use Rattle.std.specs.Prelude.{ℕ, ◌*◌, ◌-◌, Bool, false, ◌&&◌, not, nat_eq, nat_le, nat_lt, max, min, if◌then◌else◌, List, [], ◌∷◌, ◌++◌, map, filter, length, Option, Some, None}
use Rattle.std.specs.Ordering.{match_ordering}
use Rattle.sb_codec.specs.Records.{Row}
use Rattle.sb_listing.specs.Changes.{place_order}
use Rattle.sb_commands.specs.declared.care.KeptRow.{KeptRow}
use Rattle.sb_commands.specs.declared.care.RowCount.{RowCount}
use Rattle.sb_commands.specs.declared.care.Caution.{Caution}
use Rattle.sb_commands.specs.declared.care.TheConstants.{FLOOR_TIME}

abbrev pub is_no_caution : Caution → Bool
is_no_caution caution = nat_eq caution.hold 0 && (nat_eq caution.floor 0 && nat_eq caution.settle 0)

-- so many milliseconds have passed since a moment
abbrev pub is_over : ℕ → ℕ → ℕ → Bool
is_over since now time = nat_le time (now - since)

abbrev pub is_due_since : ℕ → ℕ → Option ℕ → Bool
is_due_since now hold (Some since) = is_over since now hold
is_due_since now hold None = false

-- a row that went so long ago that it can be dropped
abbrev pub is_due : ℕ → ℕ → KeptRow → Bool
is_due now hold x = is_due_since now hold x.missing

abbrev pub stays : ℕ → ℕ → KeptRow → Bool
stays now hold x = not (is_due now hold x)

abbrev pub never : Option ℕ
never = None

-- the first moment counts
abbrev pub missing_since : Option ℕ → ℕ → Option ℕ
missing_since (Some since) now = Some since
missing_since None now = Some now

abbrev pub found_row : Row → KeptRow
found_row y = record { row = y; missing = None }

abbrev pub missing_row : ℕ → KeptRow → KeptRow
missing_row now x = record { row = x.row; missing = missing_since x.missing now }

abbrev pub before : KeptRow → List KeptRow → List KeptRow
before x xs = x ∷ xs

-- The held rows up to the place of y, which the listing lacks. Then y, and then what comes of the rows after it.
abbrev pub rows_past_row : ℕ → Row → (List KeptRow → List KeptRow) → List KeptRow → List KeptRow
rows_past_row now y next [] = before (found_row y) (next [])
rows_past_row now y next (x ∷ xs) = match_ordering (place_order x.row y)
    (before (missing_row now x) (rows_past_row now y next xs))
    (before (found_row y) (next xs))
    (before (found_row y) (next (x ∷ xs)))

abbrev pub missing_rows : ℕ → List KeptRow → List KeptRow
missing_rows now xs = map (missing_row now) xs

-- one walk through the held rows and those of the listing
abbrev pub rows_with : ℕ → List KeptRow → List Row → List KeptRow
rows_with now held [] = missing_rows now held
rows_with now held (y ∷ ys) = rows_past_row now y (λ rest. rows_with now rest ys) held

-- a count of the last hour that is greater than a newer one
abbrev pub still_counts : ℕ → ℕ → RowCount → Bool
still_counts now count c = not (is_over c.at now FLOOR_TIME) && nat_lt count c.count

abbrev pub counts_with : ℕ → ℕ → List RowCount → List RowCount
counts_with now count counts = filter (still_counts now count) counts ++ record { at = now; count = count } ∷ []

abbrev pub most_of : List RowCount → ℕ
most_of [] = 0
most_of (c ∷ cs) = max c.count (most_of cs)

-- fewer than this percentage of the most rows
abbrev pub is_below : ℕ → ℕ → ℕ → Bool
is_below count floor most = nat_lt (count * 100) (floor * most)

-- too few rows would be left if all that are due went
abbrev pub holds_back : ℕ → Caution → ℕ → List KeptRow → Bool
holds_back now caution most rows = is_below (length rows - length (filter (is_due now caution.hold) rows)) caution.floor most

-- those that are due go together, or none goes
abbrev pub rows_after_floor : ℕ → Caution → ℕ → List KeptRow → List KeptRow
rows_after_floor now caution most rows = if holds_back now caution most rows then rows else filter (stays now caution.hold) rows

abbrev pub held_back : ℕ → Caution → ℕ → List KeptRow → ℕ
held_back now caution most rows = if holds_back now caution most rows then length (filter (is_due now caution.hold) rows) else 0

abbrev pub gathering_time : Caution → Bool → ℕ
gathering_time caution is_first = if is_first then max caution.settle caution.hold else caution.settle

-- twice as long, from a second to a minute
abbrev pub longer_pause : ℕ → ℕ
longer_pause pause = min (max (pause * 2) 1000) 60000
