-- The lines of standard input that `attrdir set -` writes, and how one is quoted that it refuses.
use Rattle.std.specs.Prelude.{ℕ, ◌/◌, ◌%◌, ◌==◌, Bool, ◌||◌, nat_lt, if◌then◌else◌, List, [], ◌∷◌, ◌++◌, codes, flat_map}
use Rattle.std.specs.Char.{digit_char}
use Rattle.sb_types.specs.declared.entry.Slot.{Slot}
use Rattle.sb_types.specs.declared.entry.Slot.TheVariants.{Set, Removed}
use Rattle.sb_types.specs.Value.{line_of}

-- what comes after a key
abbrev pub slot_words : Slot → List ℕ
slot_words (Set value) = line_of value
slot_words Removed = codes "removed"

-- a key and what comes after it, with a space between
abbrev pub write_line : List ℕ → Slot → List ℕ
write_line key slot = key ++ 32 ∷ slot_words slot

-- a control byte, a byte above 126, or the backslash
abbrev pub is_hidden : ℕ → Bool
is_hidden byte = (nat_lt byte 32 || nat_lt 126 byte) || byte == 92

-- the byte itself, or a backslash and its two digits
abbrev pub quoted_byte : ℕ → List ℕ
quoted_byte byte = if is_hidden byte then 92 ∷ digit_char (byte / 16) ∷ digit_char (byte % 16) ∷ [] else byte ∷ []

abbrev pub quoted_text : List ℕ → List ℕ
quoted_text text = flat_map quoted_byte text

-- the beginning of a line between quotation marks, and two dots if it is cut
abbrev pub quoted : List ℕ → Bool → List ℕ
quoted beginning is_cut = 39 ∷ quoted_text beginning ++ (if is_cut then codes "'.." else codes "'")
