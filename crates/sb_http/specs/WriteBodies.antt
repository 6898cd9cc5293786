-- The value in the body of a PUT: JSON of two members, the word of its kind and what it holds.
use Rattle.std.specs.Prelude.{ℕ, suc, ◌==◌, Bool, if◌then◌else◌, List, Option, Some, None, find, option_map, option_and_then, unwrap_or, Result, Ok, Err, false}
use Rattle.std.specs.Str.{bytes_eq, is_utf8}
use Rattle.std.specs.Prelude.{codes}
use Rattle.serde_json.specs.Data.{Data, Members, no_members, member}
use Rattle.serde_json.specs.Find.{get, as_bool, as_number, as_object, as_str, as_u64}
use Rattle.serde_json.specs.Read.{read}
use Rattle.sb_types.specs.declared.fault.Fault.{Fault}
use Rattle.sb_types.specs.declared.fault.Fault.TheVariants.{BadValue}
use Rattle.sb_types.specs.declared.kind.Form.{Form}
use Rattle.sb_types.specs.declared.kind.Form.TheVariants as forms
use Rattle.sb_types.specs.declared.kind.Kind.{Kind}
use Rattle.sb_types.specs.Kinds.{Content, Word, Text, Number, Truth, all_kinds, word_of, form_of, value_of}
use Rattle.sb_types.specs.Value.{Value}
use Rattle.sb_http.specs.declared.operation.Refusal.{Refusal}
use Rattle.sb_http.specs.declared.operation.Refusal.TheVariants.{Bad, BadBody, BadKind}

-- what a member holds, if JSON spells such contents so
abbrev pub content_in : Form → Data → Option Content
content_in forms.Word json = option_map Word (as_str json)
content_in forms.Text json = option_map Text (as_str json)
content_in forms.Number json = option_map Number (option_and_then as_u64 (as_number json))
content_in forms.Truth json = option_map Truth (as_bool json)

abbrev pub kind_of_word : List ℕ → Option Kind
kind_of_word word = find (λ kind. bytes_eq (word_of kind) word) all_kinds

abbrev pub or_bad : Result Value Fault → Result Value Refusal
or_bad (Ok value) = Ok value
or_bad (Err fault) = Err (Bad fault)

abbrev pub value_with : Kind → Option Content → Result Value Refusal
value_with kind None = Err (Bad BadValue)
value_with kind (Some content) = or_bad (value_of kind content)

abbrev pub value_of_kind : Option Kind → Data → Result Value Refusal
value_of_kind None json = Err BadKind
value_of_kind (Some kind) json = value_with kind (content_in (form_of kind) json)

abbrev pub count_members : Members → ℕ
count_members no_members = 0
count_members (member name json others) = suc (count_members others)

abbrev pub has_two_members : Data → Bool
has_two_members json = unwrap_or (option_map (λ members. count_members members == 2) (as_object json)) false

abbrev pub value_of_members : Option Data → Option Data → Result Value Refusal
value_of_members (Some kind) (Some value) = value_of_kind (option_and_then kind_of_word (as_str kind)) value
value_of_members kind value = Err BadBody

abbrev pub value_of_json : Option Data → Result Value Refusal
value_of_json None = Err BadBody
value_of_json (Some json) = if has_two_members json then value_of_members (get (codes "kind") json) (get (codes "value") json) else Err BadBody

-- the JSON that a body is
abbrev pub json_in : List ℕ → Option Data
json_in body = if is_utf8 body then read body else None

abbrev pub value_in : List ℕ → Result Value Refusal
value_in body = value_of_json (json_in body)
