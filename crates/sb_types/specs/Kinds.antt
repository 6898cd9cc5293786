-- The table of the kinds of values: what words, messages, logs and JSON read of each.
use Rattle.std.specs.Prelude.{ℕ, ◌+◌, ◌^◌, ◌<◌, ⊤, Bool, true, false, ◌==◌, nat_eq, if◌then◌else◌, List, [], ◌∷◌, length, codes, decimal, find, Option, Some, None, option_map, unwrap_or, Result, Ok, Err}
use Rattle.std.specs.Bool.{beq}
use Rattle.std.specs.Str.{IsUtf8}
use Rattle.std.specs.Cmp.Lexicographic.{pointwise}
use Rattle.sb_types.specs.declared.fault.Fault.{Fault}
use Rattle.sb_types.specs.declared.fault.Fault.TheVariants.{BadValue}
use Rattle.sb_types.specs.declared.format.TheConstants.{TAG_ADDR, TAG_WEIGHT, TAG_FLAG, TAG_TEXT}
use Rattle.sb_types.specs.declared.kind.Kind.{Kind}
use Rattle.sb_types.specs.declared.kind.Kind.TheVariants as kinds
use Rattle.sb_types.specs.declared.kind.Form.{Form}
use Rattle.sb_types.specs.declared.kind.Form.TheVariants as forms
use Rattle.sb_types.specs.declared.kind.ContentRef.{ContentRef}
use Rattle.sb_types.specs.declared.kind.ContentRef.TheVariants as views
use Rattle.sb_types.specs.Spelling.{printed_text}
use Rattle.sb_types.specs.Value.{Value, Addr, Weight, Flag, is_value, flag_word, addr_of, weight_of, flag_of, text_of}
use Rattle.sb_types.specs.Value as values

-- what a value holds, whatever its kind
pub data Content : Type 0 where
  Word : List ℕ → Content
  Text : List ℕ → Content
  Number : ℕ → Content
  Truth : Bool → Content

abbrev pub shown : ContentRef → Content
shown (views.Word text) = Word text.now
shown (views.Text text) = Text text.now
shown (views.Number number) = Number number
shown (views.Truth truth) = Truth truth

abbrev pub word_in : Content → Option (List ℕ)
word_in (Word text) = Some text
word_in (Text text) = None
word_in (Number number) = None
word_in (Truth truth) = None

abbrev pub text_in : Content → Option (List ℕ)
text_in (Word text) = None
text_in (Text text) = Some text
text_in (Number number) = None
text_in (Truth truth) = None

abbrev pub number_in : Content → Option ℕ
number_in (Word text) = None
number_in (Text text) = None
number_in (Number number) = Some number
number_in (Truth truth) = None

abbrev pub truth_in : Content → Option Bool
truth_in (Word text) = None
truth_in (Text text) = None
truth_in (Number number) = None
truth_in (Truth truth) = Some truth

-- ---- the table, a column each

abbrev pub all_kinds : List Kind
all_kinds = kinds.Addr ∷ kinds.Weight ∷ kinds.Flag ∷ kinds.Text ∷ []

abbrev pub word_of : Kind → List ℕ
word_of kinds.Addr = codes "addr"
word_of kinds.Weight = codes "weight"
word_of kinds.Flag = codes "flag"
word_of kinds.Text = codes "text"

abbrev pub tag_of : Kind → ℕ
tag_of kinds.Addr = TAG_ADDR
tag_of kinds.Weight = TAG_WEIGHT
tag_of kinds.Flag = TAG_FLAG
tag_of kinds.Text = TAG_TEXT

abbrev pub form_of : Kind → Form
form_of kinds.Addr = forms.Word
form_of kinds.Weight = forms.Number
form_of kinds.Flag = forms.Truth
form_of kinds.Text = forms.Text

abbrev pub kind_of : Value → Kind
kind_of (Addr text) = kinds.Addr
kind_of (Weight weight) = kinds.Weight
kind_of (Flag flag) = kinds.Flag
kind_of (values.Text text) = kinds.Text

abbrev pub content_of : Value → Content
content_of (Addr text) = Word text
content_of (Weight weight) = Number weight
content_of (Flag flag) = Truth flag
content_of (values.Text text) = Text text

-- the value of a kind and a content, if the content has the form of the kind
abbrev pub made_value : Kind → Content → Option Value
made_value kinds.Addr content = option_map Addr (word_in content)
made_value kinds.Weight content = option_map Weight (number_in content)
made_value kinds.Flag content = option_map Flag (truth_in content)
made_value kinds.Text content = option_map values.Text (text_in content)

-- ---- what follows

-- the kind of a tag
abbrev pub kind_of_tag : ℕ → Option Kind
kind_of_tag tag = find (λ kind. tag == tag_of kind) all_kinds

abbrev pub form_in : Content → Form
form_in (Word text) = forms.Word
form_in (Text text) = forms.Text
form_in (Number number) = forms.Number
form_in (Truth truth) = forms.Truth

abbrev pub within_limits : Option Value → Result Value Fault
within_limits None = Err BadValue
within_limits (Some value) = if is_value value then Ok value else Err BadValue

-- the value of a kind and a content, within its limits
abbrev pub value_of : Kind → Content → Result Value Fault
value_of kind content = within_limits (made_value kind content)

-- how a content is printed as one word of a line. In place of a text is its spelling
abbrev pub content_word : Content → List ℕ
content_word (Word text) = text
content_word (Text text) = printed_text text
content_word (Number number) = decimal number
content_word (Truth truth) = flag_word truth

-- how many bytes a message has of it. A word has a length byte before it, and a text has two
abbrev pub content_length : Content → ℕ
content_length (Word text) = 1 + length text
content_length (Text text) = 2 + length text
content_length (Number number) = 8
content_length (Truth truth) = 1

-- the content is kept in allocated memory
abbrev pub takes_memory : Content → Bool
takes_memory (Word text) = true
takes_memory (Text text) = true
takes_memory (Number number) = false
takes_memory (Truth truth) = false

-- what every content of a form keeps to
abbrev pub Fits : Content → Type 0
Fits (Word text) = (length text < 2 ^ 8) × IsUtf8 text
Fits (Text text) = (length text < 2 ^ 16) × IsUtf8 text
Fits (Number number) = number < 2 ^ 63
Fits (Truth truth) = ⊤

-- one kind and one content
abbrev pub is_same_value : Value → Value → Bool
is_same_value (Addr text) other = unwrap_or (option_map (λ it. pointwise nat_eq it text) (addr_of other)) false
is_same_value (Weight weight) other = unwrap_or (option_map (λ it. it == weight) (weight_of other)) false
is_same_value (Flag flag) other = unwrap_or (option_map (λ it. beq it flag) (flag_of other)) false
is_same_value (values.Text text) other = unwrap_or (option_map (λ it. pointwise nat_eq it text) (text_of other)) false
