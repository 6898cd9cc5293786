-- How a text is spelled on a line.
use Rattle.std.specs.Prelude.{ℕ, ◌/◌, ◌%◌, ◌==◌, Bool, not, ◌||◌, nat_lt, if◌then◌else◌, List, [], ◌∷◌, flat_map}
use Rattle.std.specs.Char.{digit_char, encode_utf8}
use Rattle.std.specs.List.{list_all}

-- a byte that would end the line, or that the line would not show
abbrev pub is_control : ℕ → Bool
is_control byte = nat_lt byte 32 || byte == 127

-- a control byte, or the backslash
abbrev pub is_escaped : ℕ → Bool
is_escaped byte = is_control byte || byte == 92

-- the byte itself, or a backslash and its two digits
abbrev pub printed_byte : ℕ → List ℕ
printed_byte byte = if is_escaped byte then 92 ∷ digit_char (byte / 16) ∷ digit_char (byte % 16) ∷ [] else byte ∷ []

abbrev pub printed_text : List ℕ → List ℕ
printed_text text = flat_map printed_byte text

-- the same for a character
abbrev pub printed_char : ℕ → List ℕ
printed_char c = if is_escaped c then 92 ∷ digit_char (c / 16) ∷ digit_char (c % 16) ∷ [] else encode_utf8 c

-- the line contains no control byte
abbrev pub is_one_line : List ℕ → Bool
is_one_line line = list_all (λ byte. not (is_control byte)) line
