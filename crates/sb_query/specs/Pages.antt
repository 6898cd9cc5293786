-- The page that answers a question for rows.
use Rattle.std.specs.Prelude.{◌≡◌, ℕ, ◌+◌, ◌≤◌, ◌<◌, ◌&&◌, nat_eq, nat_lt, if◌then◌else◌, List, [], ◌∷◌, length, take, map, Option, Some, None}
use Rattle.std.specs.Cmp.Lexicographic.{pointwise}
use Rattle.sb_types.specs.declared.format.TheConstants.{HEADER_LENGTH}
use Rattle.sb_codec.specs.declared.message.ask.Ask.{Ask}
use Rattle.sb_codec.specs.Records.{Row, Rows, row_of}
use Rattle.sb_codec.specs.Lengths.{rows_length}
use Rattle.sb_views.specs.NodeViews.{NodeView}
use Rattle.sb_views.specs.LiveRows as live

-- a live row, as a row of an answer
abbrev pub message_row : live.LiveRow → Row
message_row row = row_of row.owner row.key row.version row.value

-- a row of an answer, as a live row
abbrev pub live_row : Row → live.LiveRow
live_row row = record { owner = row.owner; key = row.key; value = row.value; version = row.version }

-- the live rows that are asked for: of the owner or of all owners, under the prefix, after the place
abbrev pub asked_rows : Ask → NodeView → List Row
asked_rows ask page = map message_row (live.rows_behind ask.after ask.owner ask.prefix page)

-- the same question for the rows after this one
abbrev pub asking_behind : Row → Ask → Ask
asking_behind row ask = record { owner = ask.owner; prefix = ask.prefix; after = Some (row.owner, row.key) }

abbrev pub rows_frame_length : List Row → ℕ
rows_frame_length rows = HEADER_LENGTH + rows_length rows

-- the longest prefix of the rows whose frame has at most budget bytes, and whether rows are left
pub record IsLongestPage (budget : ℕ) (asked : List Row) (page : Rows) : Type 0 where
  pub count : ℕ
  pub within : count ≤ length asked
  pub rows : page.rows ≡ take count asked
  pub more : page.more ≡ nat_lt count (length asked)
  pub fits : rows_frame_length page.rows ≤ budget
  pub longest : (n : ℕ) → count < n → n ≤ length asked → budget < rows_frame_length (take n asked)

-- the first row, if it is of this owner and key
abbrev pub first_at : List Row → List ℕ → List ℕ → Option Row
first_at [] owner key = None
first_at (x ∷ xs) owner key = if pointwise nat_eq x.owner owner && pointwise nat_eq x.key key then Some x else None
