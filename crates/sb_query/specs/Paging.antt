-- Questions for all asked rows, page after page.
use Rattle.std.specs.Prelude.{◌≡◌, ℕ, Bool, true, false, ◌&&◌, ◌⊎◌, List, [], ◌∷◌, ◌++◌, length, Option, Some, None}
use Rattle.sb_types.specs.declared.fault.Fault.{Fault}
use Rattle.sb_types.specs.declared.fault.Fault.TheVariants.{Malformed, TurnsSpent}
use Rattle.sb_types.specs.declared.format.TheConstants.{KIND_ROWS}
use Rattle.sb_codec.specs.declared.message.ask.Ask.{Ask}
use Rattle.sb_codec.specs.Records.{Row, Rows}
use Rattle.sb_codec.specs.Limits.{are_rows_above}
use Rattle.sb_query.specs.Pages.{asking_behind}
use Rattle.sb_query.specs.declared.paging.TheConstants.{PAGES_MOST}
use Rattle.sb_query.specs.declared.paging.PagingFault.{PagingFault}
use Rattle.sb_query.specs.declared.paging.PagingFault.TheVariants.{Failed, Wrong}

-- a call that did not fail: a question and its page, or a page that was taken
pub data Act : Type 0 where
  asks : Ask → Rows → Act
  takes : Rows → Act

-- all rows are after the place, each after the one before; without a place, nothing is required
abbrev pub are_rows_behind : Option (List ℕ × List ℕ) → List Row → Bool
are_rows_behind None rows = true
are_rows_behind (Some place) rows = are_rows_above place.0 place.1 rows

-- more rows can follow only after a row
abbrev pub ends_or_has_rows : Bool → List Row → Bool
ends_or_has_rows true [] = false
ends_or_has_rows true (row ∷ rows) = true
ends_or_has_rows false rows = true

-- a page is after the place that was asked for, and has a row if it reports that more follow
abbrev pub goes_on : Option (List ℕ × List ℕ) → Rows → Bool
goes_on after page = are_rows_behind after page.rows && ends_or_has_rows page.more page.rows

-- the place of the last row, if more rows follow
abbrev pub IsPlaceBehind : Rows → Option (List ℕ × List ℕ) → Type 0
IsPlaceBehind page None = page.more ≡ false
IsPlaceBehind page (Some place) =
    (front : List Row) × (last : Row) × (page.more ≡ true) × (page.rows ≡ front ++ last ∷ []) × (place ≡ (last.owner, last.key))

-- a page was asked for, goes on, and was taken
pub record Turns {S : Type 0} (step : S → Act → S → Type 0) (old : S) (ask : Ask) (page : Rows) (new : S) : Type 0 where
  pub answered : S
  pub asks : step old (asks ask page) answered
  pub goes : goes_on ask.after page ≡ true
  pub takes : step answered (takes page) new

-- more rows follow the last one of the page, and the next question asks for them
pub record AsksBehind (ask : Ask) (page : Rows) (next : Ask) : Type 0 where
  pub front : List Row
  pub last : Row
  pub more : page.more ≡ true
  pub rows : page.rows ≡ front ++ last ∷ []
  pub next_is : next ≡ asking_behind last ask

-- page after page was asked for and taken, and more rows after the last one are asked for next
abbrev pub Leads : {S : Type 0} → (S → Act → S → Type 0) → S → Ask → List Rows → S → Ask → Type 0
Leads step old ask [] new next = (new ≡ old) × (next ≡ ask)
Leads {S} step old ask (page ∷ pages) new next =
    (mid : S) × (behind : Ask) × Turns step old ask page mid × AsksBehind ask page behind × Leads step mid behind pages new next

-- page after page was asked for and taken, each after the one before, up to one that reports that none follow
pub record Lists {S : Type 0} (step : S → Act → S → Type 0) (old : S) (ask : Ask) (pages : List Rows) (last : Rows) (new : S) : Type 0 where
  pub before : S
  pub next : Ask
  pub leads : Leads step old ask pages before next
  pub turns : Turns step before next last new
  pub none_follow : last.more ≡ false

-- a page did not go on, and was not taken
abbrev pub IsWrong : {S : Type 0} → (S → Act → S → Type 0) → S → Ask → S → Fault → Type 0
IsWrong step old ask new fault = (page : Rows) × step old (asks ask page) new × (goes_on ask.after page ≡ false) × (fault ≡ Malformed KIND_ROWS)

abbrev pub TurnsAside : {S E : Type 0} → (S → Act → S → Type 0) → S → Ask → S → PagingFault E → Type 0
TurnsAside step old ask new (Failed failure) = Unit {0}
TurnsAside step old ask new (Wrong fault) = IsWrong step old ask new fault

-- after the pages that were taken came one that did not go on; or 2 ^ 64 - 1 pages were taken, and more rows follow
abbrev pub GoesAstray : {S E : Type 0} → (S → Act → S → Type 0) → S → Ask → S → PagingFault E → Type 0
GoesAstray step old ask new (Failed failure) = Unit {0}
GoesAstray {S} step old ask new (Wrong fault) = (pages : List Rows) × (mid : S) × (next : Ask) × Leads step old ask pages mid next
    × (IsWrong step mid next new fault ⊎ ((new ≡ mid) × (length pages ≡ PAGES_MOST) × (fault ≡ TurnsSpent)))
