-- What the rows of a log's tables hold.
use Rattle.std.specs.Prelude.{◌≡◌, ◌≤◌, ℕ, max, ℤ, pos, Bool, true, false, ◌&&◌, ◌==◌, if◌then◌else◌, nat_le, nat_lt, List, [], ◌∷◌, map, filter, length, Option, Some, None, option_map, unwrap_or, IsPermutation}
use Rattle.std.specs.List.{list_all, list_any, AllByRecursion}
use Rattle.sqlite_value.specs.declared.value.Value as cell
use Rattle.sqlite_value.specs.declared.value.Value.TheVariants.{Null, Int, Text}
use Rattle.sqlite_value.specs.Order.{Row, column, bytes}
use Rattle.sqlite_trees.specs.Tree.{rowid, has_rowid}
use Rattle.sqlite_trees.specs.View.{is_int}
use Rattle.sb_types.specs.declared.entry.Slot.{Slot}
use Rattle.sb_types.specs.declared.entry.Slot.TheVariants.{Set, Removed}
use Rattle.sb_types.specs.declared.limits.TheConstants.{VERSION_MOST}
use Rattle.sb_types.specs.declared.kind.Kind.{Kind}
use Rattle.sb_types.specs.declared.kind.Form.{Form}
use Rattle.sb_types.specs.declared.kind.Form.TheVariants as forms
use Rattle.sb_types.specs.declared.format.TheConstants.{TAG_TEXT}
use Rattle.sb_types.specs.Kinds as kinds
use Rattle.sb_types.specs.Kinds.{Content, Word, Number, Truth, tag_of, kind_of, form_of, kind_of_tag, made_value}
use Rattle.sb_types.specs.Limits.{is_entry}
use Rattle.sb_types.specs.Records.{Entry, Table}
use Rattle.sb_types.specs.Runs.{last_version, live_entries}
use Rattle.sb_table.specs.Plain.{IsPlainTable, plain_table, with_entry}

abbrev pub flag_number : Bool → ℕ
flag_number true = 1
flag_number false = 0

abbrev pub number_cell : Content → cell.Value
number_cell (Word text) = Null
number_cell (kinds.Text text) = Null
number_cell (Number number) = Int (pos number)
number_cell (Truth truth) = Int (pos (flag_number truth))

abbrev pub text_cell : Content → cell.Value
text_cell (Word text) = Text text
text_cell (kinds.Text text) = Text text
text_cell (Number number) = Null
text_cell (Truth truth) = Null

-- the tag, the number and the text of a slot
abbrev pub slot_cells : Slot → Row
slot_cells Removed = Int (pos 0) ∷ Null ∷ Null ∷ []
slot_cells (Set value) = Int (pos (tag_of (kind_of value))) ∷ number_cell (kinds.content_of value) ∷ text_cell (kinds.content_of value) ∷ []

abbrev pub sets_text : Slot → Bool
sets_text Removed = false
sets_text (Set value) = tag_of (kind_of value) == TAG_TEXT

abbrev pub has_texts : Table → Bool
has_texts table = list_any (λ e. sets_text e.slot) table.entries

-- the columns of the row that holds an entry
abbrev pub cells_of : Entry → Row
cells_of e = Text e.key ∷ Int (pos e.version) ∷ slot_cells e.slot

-- a log holds no later version
abbrev pub is_kept : Entry → Bool
is_kept e = is_entry e && nat_le e.version VERSION_MOST

-- the columns of a row of writes, behind its rowid
abbrev pub cells : Row → Row
cells row = column row 1 ∷ column row 2 ∷ column row 3 ∷ column row 4 ∷ column row 5 ∷ []

-- the same columns, with the rowid
abbrev pub numbered_cells : Row → Row
numbered_cells row = rowid row ∷ cells row

abbrev pub AreNumbered : List Row → Type 0
AreNumbered rows = AllByRecursion (λ r. is_int (rowid r) ≡ true) rows

-- no rowid stands twice
abbrev pub AreNumberedApart : List Row → Type 0
AreNumberedApart rows = (n : ℤ) → length (filter (has_rowid n) rows) ≤ 1

-- the rows are those of the table's entries, one for each, in whatever order
pub record AreRowsOf (table : Table) (rows : List Row) : Type 0 where
  pub plain : IsPlainTable table
  pub kept : list_all is_kept table.entries ≡ true
  pub same : IsPermutation (map cells rows) (map cells_of table.entries)
  pub numbered : AreNumbered rows
  pub apart : AreNumberedApart rows

-- where the rows were a table's, they are now that table's with the entry
abbrev pub Enters : Entry → List Row → List Row → Type 0
Enters e old new = (t : Table) → IsPlainTable (with_entry t e) → AreRowsOf t old → AreRowsOf (with_entry t e) new

-- where the rows were a table's, they are now those of its entries without the removals up to the floor
abbrev pub Drops : ℕ → List Row → List Row → Type 0
Drops floor old new = (t : Table) → AreRowsOf t old → AreRowsOf (plain_table (live_entries floor t.entries)) new

-- ---- the table that rows hold

abbrev pub number_of : cell.Value → ℕ
number_of (Int (pos n)) = n
number_of _ = 0

-- the content in these cells, by its form
abbrev pub content_by_form : Form → cell.Value → cell.Value → Content
content_by_form forms.Word number text = Word (bytes text)
content_by_form forms.Text number text = kinds.Text (bytes text)
content_by_form forms.Number number text = Number (number_of number)
content_by_form forms.Truth number text = Truth (number_of number == 1)

abbrev pub slot_by_kind : Option Kind → cell.Value → cell.Value → Slot
slot_by_kind None number text = Removed
slot_by_kind (Some kind) number text = unwrap_or (option_map Set (made_value kind (content_by_form (form_of kind) number text))) Removed

abbrev pub slot_by : ℕ → cell.Value → cell.Value → Slot
slot_by tag number text = slot_by_kind (kind_of_tag tag) number text

abbrev pub entry_by : Row → Entry
entry_by row = record { key = bytes (column row 0); version = number_of (column row 1); slot = slot_by (number_of (column row 2)) (column row 3) (column row 4) }

-- the entry laid behind those of lesser versions
abbrev pub put_by_version : Entry → List Entry → List Entry
put_by_version e [] = e ∷ []
put_by_version e (x ∷ xs) = if nat_lt x.version e.version then x ∷ put_by_version e xs else e ∷ x ∷ xs

abbrev pub in_order : List Entry → List Entry
in_order [] = []
in_order (e ∷ es) = put_by_version e (in_order es)

-- the last version and the floor that the row of meta says
abbrev pub last_in : List Row → ℕ
last_in [] = 0
last_in (row ∷ rows) = number_of (column row 5)

abbrev pub floor_in : List Row → ℕ
floor_in [] = 0
floor_in (row ∷ rows) = number_of (column row 6)

-- the content of a log that says this last version and this floor beside these entries: the removals up to the floor are none of it
abbrev pub content_by : ℕ → ℕ → List Entry → Table
content_by last floor entries = record { held = max last (last_version 0 entries); floor = floor; entries = live_entries floor entries }

-- a log of these entries can say this last version and this floor: the floor is at most the last version, and that at most the greatest of
-- all, and at most the last entry's or the floor, whichever is higher
pub record CanSay (last floor : ℕ) (entries : List Entry) : Type 0 where
  pub order : floor ≤ last
  pub reach : last ≤ max floor (last_version 0 entries)
  pub most : last ≤ VERSION_MOST

-- the content that the rows of both tables hold, their entries in the order of their versions
abbrev pub content_of : List Row → List Row → Table
content_of metas rows = content_by (last_in metas) (floor_in metas) (in_order (map (λ row. entry_by (cells row)) rows))
