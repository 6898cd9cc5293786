-- A value as plain data, its limits, and its words in a script.
use Rattle.std.specs.Prelude.{◌≡◌, ℕ, ◌^◌, Bool, true, false, not, ◌==◌, nat_lt, List, ◌∷◌, ◌++◌, codes, decimal, Option, Some, None}
use Rattle.std.specs.List.{list_all}
use Rattle.sb_types.specs.Text.{is_addr, is_text}
use Rattle.sb_types.specs.Spelling.{printed_text}

pub data Value : Type 0 where
  Addr : List ℕ → Value
  Weight : ℕ → Value
  Flag : Bool → Value
  Text : List ℕ → Value

abbrev pub is_value : Value → Bool
is_value (Addr text) = is_addr text
is_value (Weight weight) = nat_lt weight (2 ^ 63)
is_value (Flag flag) = true
is_value (Text text) = is_text text

-- the value has a text, which is kept in allocated memory
abbrev pub holds_text : Value → Bool
holds_text (Addr text) = true
holds_text (Weight weight) = false
holds_text (Flag flag) = false
holds_text (Text text) = true

abbrev pub flag_word : Bool → List ℕ
flag_word true = codes "true"
flag_word false = codes "false"

-- the two words of a value, its kind and its content: the one spelling that is read. The content of a text may have
-- spaces
abbrev pub words_of : Value → List ℕ × List ℕ
words_of (Addr text) = (codes "addr", text)
words_of (Weight weight) = (codes "weight", decimal weight)
words_of (Flag flag) = (codes "flag", flag_word flag)
words_of (Text text) = (codes "text", printed_text text)

-- the text contains no space
abbrev pub is_word : List ℕ → Bool
is_word text = list_all (λ byte. not (byte == 32)) text

-- the two words as they are printed, with a space between them
abbrev pub line_of : Value → List ℕ
line_of value = (words_of value).0 ++ 32 ∷ (words_of value).1

abbrev pub addr_of : Value → Option (List ℕ)
addr_of (Addr text) = Some text
addr_of (Weight weight) = None
addr_of (Flag flag) = None
addr_of (Text text) = None

abbrev pub weight_of : Value → Option ℕ
weight_of (Addr text) = None
weight_of (Weight weight) = Some weight
weight_of (Flag flag) = None
weight_of (Text text) = None

abbrev pub flag_of : Value → Option Bool
flag_of (Addr text) = None
flag_of (Weight weight) = None
flag_of (Flag flag) = Some flag
flag_of (Text text) = None

abbrev pub text_of : Value → Option (List ℕ)
text_of (Addr text) = None
text_of (Weight weight) = None
text_of (Flag flag) = None
text_of (Text text) = Some text

-- the word is the spelling of a text
abbrev pub IsSpelled : List ℕ → Type 0
IsSpelled word = (text : List ℕ) × (is_text text ≡ true) × (printed_text text ≡ word)
