-- A row as JSON.
use Rattle.std.specs.Prelude.{ℕ, List, [], ◌∷◌, ◌++◌, map, codes}
use Rattle.std.specs.List.{flat_map}
use Rattle.sb_types.specs.Kinds.{Content, Word, Text, Number, Truth, word_of, kind_of, content_of}
use Rattle.sb_codec.specs.Records.{Row}
use Rattle.serde_json.specs.Data.{Data, boolean, number, unsigned, string, array, object, Items, no_items, item, member, no_members}
use Rattle.serde_json.specs.Written.{compact_text}

abbrev pub content_data : Content → Data
content_data (Word text) = string text
content_data (Text text) = string text
content_data (Number n) = number (unsigned n)
content_data (Truth truth) = boolean truth

-- the members are in the order of their names
abbrev pub object_data : List ℕ → List ℕ → List ℕ → Data → ℕ → Data
object_data key kind owner value version =
    object (member (codes "key") (string key) (member (codes "kind") (string kind) (member (codes "owner") (string owner)
    (member (codes "value") value (member (codes "version") (number (unsigned version)) no_members)))))

-- a row as an object: its key, the word of its kind, its owner, what its value holds, and its version
unfoldable pub row_data : Row → Data
row_data row = object_data row.key (word_of (kind_of row.value)) row.owner (content_data (content_of row.value)) row.version

abbrev pub items_of : List Data → Items
items_of [] = no_items
items_of (d ∷ ds) = item d (items_of ds)

-- the array of the objects of rows
abbrev pub rows_data : List Row → Data
rows_data rows = array (items_of (map row_data rows))

-- the text of the object, without spaces, and the end of the line
abbrev pub json_line : Row → List ℕ
json_line row = compact_text (row_data row) ++ 10 ∷ []

abbrev pub json_lines : List Row → List ℕ
json_lines rows = flat_map json_line rows
