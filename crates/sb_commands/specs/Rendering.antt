-- The text of a template with rows.
use Rattle.std.specs.Prelude.{ℕ, Bool, true, false, ◌&&◌, ◌||◌, nat_eq, nat_le, if◌then◌else◌, List, [], ◌∷◌, ◌++◌, decimal, codes, length, filter, not, find, position, take, drop, ◌+◌, Option, Some, None, option_map, unwrap_or, vec_items}
use Rattle.std.specs.List.{list_all, list_any, flat_map}
use Rattle.std.specs.Cmp.Lexicographic.{pointwise}
use Rattle.sb_types.specs.Value.{Value, flag_word}
use Rattle.sb_types.specs.Kinds.{Content, Word, Text, Number, Truth, content_of}
use Rattle.sb_codec.specs.Records.{Row}
use Rattle.sb_commands.specs.declared.template.ValuePart.{ValuePart}
use Rattle.sb_commands.specs.declared.template.ValuePart.TheVariants.{Whole, Host, Port}
use Rattle.sb_commands.specs.declared.template.Placeholder.{Placeholder}
use Rattle.sb_commands.specs.declared.template.Piece.{Piece}
use Rattle.sb_commands.specs.declared.template.Piece.TheVariants as pieces
use Rattle.sb_commands.specs.declared.template.TemplateLine.{TemplateLine}

-- ---- the words of values

abbrev pub is_between : ℕ → ℕ → ℕ → Bool
is_between least most byte = nat_le least byte && nat_le byte most

-- a letter, a digit or one of . : / _ - [ ] @ % + , =
abbrev pub is_plain_byte : ℕ → Bool
is_plain_byte byte = (is_between 48 57 byte || (is_between 65 90 byte || is_between 97 122 byte)) || list_any (nat_eq byte) (codes ".:/_-[]@%+,=")

abbrev pub is_plain : List ℕ → Bool
is_plain word = nat_le 1 (length word) && list_all is_plain_byte word

-- an address or a text as it is, a number in decimal, true or false
abbrev pub word_in : Content → List ℕ
word_in (Word text) = text
word_in (Text text) = text
word_in (Number number) = decimal number
word_in (Truth truth) = flag_word truth

abbrev pub word_of : Value → List ℕ
word_of value = word_in (content_of value)

abbrev pub is_colon : ℕ → Bool
is_colon byte = nat_eq byte 58

abbrev pub has_one_colon : List ℕ → Bool
has_one_colon word = nat_eq (length (filter is_colon word)) 1

-- the host and the port are what an address has before and after its only colon
abbrev pub part_of : ValuePart → List ℕ → Option (List ℕ)
part_of Whole word = Some word
part_of Host word = if has_one_colon word then option_map (λ place. take place word) (position is_colon word) else None
part_of Port word = if has_one_colon word then option_map (λ place. drop (place + 1) word) (position is_colon word) else None

abbrev pub plain_only : Option (List ℕ) → Option (List ℕ)
plain_only None = None
plain_only (Some word) = if is_plain word then Some word else None

-- ---- the line of an owner

abbrev pub is_of : List ℕ → Row → Bool
is_of owner row = pointwise nat_eq row.owner owner

abbrev pub is_foreign : List ℕ → Row → Bool
is_foreign owner row = not (is_of owner row)

abbrev pub has_key : List ℕ → Row → Bool
has_key key row = pointwise nat_eq row.key key

-- a value that cannot be written is no reason to write the other word
abbrev pub placeholder_text : Placeholder → Option Row → Option (List ℕ)
placeholder_text it None = option_map vec_items it.otherwise
placeholder_text it (Some row) = plain_only (part_of it.part (word_of row.value))

abbrev pub condition_text : List ℕ → Option Row → Option (List ℕ)
condition_text word None = None
condition_text word (Some row) = if pointwise nat_eq (word_of row.value) word then Some [] else None

-- what is written for a piece of a line, for an owner with these rows. None if the owner has no such line
abbrev pub piece_text : List ℕ → List Row → Piece → Option (List ℕ)
piece_text owner rows (pieces.Text text) = Some text.items
piece_text owner rows pieces.Owner = Some owner
piece_text owner rows (pieces.Value it) = placeholder_text it (find (has_key it.key) rows)
piece_text owner rows (pieces.Only key word) = condition_text word.items (find (has_key key) rows)

abbrev pub joined : Option (List ℕ) → Option (List ℕ) → Option (List ℕ)
joined None rest = None
joined (Some text) rest = option_map (λ more. text ++ more) rest

-- the line ends where its pieces do
abbrev pub line_text : List ℕ → List Row → List Piece → Option (List ℕ)
line_text owner rows [] = Some (10 ∷ [])
line_text owner rows (piece ∷ line) = joined (piece_text owner rows piece) (line_text owner rows line)

abbrev pub text_or_nothing : Option (List ℕ) → List ℕ
text_or_nothing text = unwrap_or text []

abbrev pub up_to : Option ℕ → List Row → List Row
up_to None rows = rows
up_to (Some place) rows = take place rows

-- the rows before the first one of another owner
abbrev pub own_rows : List ℕ → List Row → List Row
own_rows owner rows = up_to (position (is_foreign owner) rows) rows

-- the line of a row's owner
abbrev pub first_line : List Piece → Row → List Row → List ℕ
first_line line row rows = text_or_nothing (line_text row.owner (own_rows row.owner rows) line)

-- only the first row of an owner has a line
abbrev pub line_at : List Piece → List ℕ → Row → List Row → List ℕ
line_at line before row rows = if is_of before row then [] else first_line line row rows

-- a line for each owner. No name of an owner is empty
abbrev pub owner_lines : List Piece → List ℕ → List Row → List ℕ
owner_lines line before [] = []
owner_lines line before (row ∷ rows) = line_at line before row (row ∷ rows) ++ owner_lines line row.owner rows

-- ---- the file

abbrev pub is_text : Piece → Bool
is_text (pieces.Text text) = true
is_text pieces.Owner = false
is_text (pieces.Value it) = false
is_text (pieces.Only key word) = false

-- a line without placeholders is written once
abbrev pub written_line : List Row → TemplateLine → List ℕ
written_line rows line = if list_all is_text line.pieces.items then text_or_nothing (line_text [] [] line.pieces.items) else owner_lines line.pieces.items [] rows

abbrev pub rendered : List TemplateLine → List Row → List ℕ
rendered template rows = flat_map (written_line rows) template
