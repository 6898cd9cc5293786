-- The parts of a message, read.
use Rattle.std.specs.Prelude.{ℕ, ◌==◌, if◌then◌else◌, Bool, true, false, nat_le, List, [], ◌∷◌, Option, Some, None, is_some, Result, Ok, Err}
use Rattle.std.specs.Bool.{beq}
use Rattle.std.specs.Option.{option_zip}
use Rattle.std.specs.Int.{w64}
use Rattle.sb_types.specs.declared.entry.Write.{Write}
use Rattle.sb_types.specs.declared.entry.Slot.{Slot}
use Rattle.sb_types.specs.declared.entry.Slot.TheVariants.{Set, Removed}
use Rattle.sb_types.specs.Text.{is_name, is_key, is_prefix, is_short_text}
use Rattle.sb_types.specs.Value.{Value}
use Rattle.sb_types.specs.Kinds.{Content, Word, Text, Number, Truth, form_of, kind_of_tag, value_of}
use Rattle.sb_types.specs.declared.kind.Kind.{Kind}
use Rattle.sb_types.specs.declared.kind.Form.{Form}
use Rattle.sb_types.specs.declared.kind.Form.TheVariants as forms
use Rattle.sb_types.specs.declared.fault.Fault.{Fault}
use Rattle.sb_types.specs.Records.{Entry, Block}
use Rattle.sb_types.specs.Limits.{are_block_parts, block_of_parts, are_delta_blocks}
use Rattle.sb_types.specs.declared.format.TheConstants.{TAG_REMOVED}
use Rattle.sb_digest.specs.Digests.{Pair, Digest, digest_of}
use Rattle.sb_digest.specs.Limits.{are_digest_parts}
use Rattle.sb_codec.specs.declared.message.hello.Hello.{Hello}
use Rattle.sb_codec.specs.declared.message.ask.Ask.{Ask}
use Rattle.sb_codec.specs.declared.message.ask_change.AskChange.{AskChange}
use Rattle.sb_codec.specs.declared.message.notice.Notice.{Notice}
use Rattle.sb_codec.specs.declared.message.notice.Notice.TheVariants.{Watching, Changed, Same}
use Rattle.sb_codec.specs.declared.message.ages.OwnerAge.{OwnerAge}
use Rattle.sb_codec.specs.declared.message.node_identity.NodeIdentity.{NodeIdentity}
use Rattle.sb_codec.specs.Records.{Row, Rows, row_of, rows_of, Figure, figure_of, Peer, NodeStatus, status_of}
use Rattle.sb_codec.specs.Limits.{is_reason, is_version, is_fault_number, are_page_rows, are_status_parts, are_owner_ages}
use Rattle.sb_codec.specs.Fields.{Field, none_field, given_field, lead_field, made_field, then_field, where_field, byte_field, number_field, text_field, long_text_field, list_field, tagged_field}

unfoldable pub name_field : Field (List ℕ)
name_field = where_field is_name text_field

unfoldable pub key_field : Field (List ℕ)
key_field = where_field is_key text_field

abbrev pub flag_cases : List (ℕ × Field Bool)
flag_cases = (0, given_field false) ∷ (1, given_field true) ∷ []

unfoldable pub flag_field : Field Bool
flag_field = tagged_field flag_cases

unfoldable pub content_field : Form → Field Content
content_field forms.Word = made_field Word text_field
content_field forms.Text = made_field Text long_text_field
content_field forms.Number = made_field Number (number_field w64)
content_field forms.Truth = made_field Truth flag_field

-- the value, if there is one
abbrev pub result_field : {A : Type 0} → Result A Fault → Field A
result_field (Ok x) = given_field x
result_field (Err fault) = none_field

-- the content of a value of the kind
abbrev pub kind_field : Kind → Field Value
kind_field kind = lead_field (content_field (form_of kind)) (λ content. result_field (value_of kind content))

abbrev pub optional_kind_field : Option Kind → Field Value
optional_kind_field None = none_field
optional_kind_field (Some kind) = kind_field kind

-- what comes after the tag of a value
unfoldable pub tag_field : ℕ → Field Value
tag_field tag = optional_kind_field (kind_of_tag tag)

unfoldable pub value_field : Field Value
value_field = lead_field byte_field tag_field

-- what comes after the tag of a slot
abbrev pub tagged_slot : ℕ → Field Slot
tagged_slot tag = if tag == TAG_REMOVED then given_field Removed else made_field Set (tag_field tag)

unfoldable pub slot_field : Field Slot
slot_field = lead_field byte_field tagged_slot

abbrev pub entry_of_parts : List ℕ × (ℕ × Slot) → Entry
entry_of_parts e = record { key = e.0; version = e.1.0; slot = e.1.1 }

unfoldable pub entry_field : Field Entry
entry_field = made_field entry_of_parts (then_field key_field (then_field (where_field (nat_le 1) (number_field w64)) slot_field))

-- the owner, the purge floor, the versions after and upto, and the entries
abbrev pub BlockFields : Type 0
BlockFields = List ℕ × (ℕ × (ℕ × (ℕ × List Entry)))

abbrev pub are_block_fields : BlockFields → Bool
are_block_fields b = are_block_parts b.1.1.0 b.1.1.1.0 b.1.1.1.1

abbrev pub block_of_fields : BlockFields → Block
block_of_fields b = block_of_parts b.0 b.1.0 b.1.1.0 b.1.1.1.0 b.1.1.1.1

unfoldable pub block_field : Field Block
block_field = made_field block_of_fields (where_field are_block_fields (then_field name_field (then_field (number_field w64) (then_field (number_field w64) (then_field (number_field w64) (list_field entry_field))))))

unfoldable pub delta_field : Field (List Block)
delta_field = where_field are_delta_blocks (list_field block_field)

abbrev pub hello_of_parts : List ℕ × List ℕ → Hello
hello_of_parts h = record { cluster = h.0; node = h.1 }

unfoldable pub hello_field : Field Hello
hello_field = made_field hello_of_parts (then_field name_field name_field)

unfoldable pub bye_field : Field ℕ
bye_field = where_field is_reason byte_field

abbrev pub write_of_parts : List ℕ × Slot → Write
write_of_parts w = record { key = w.0; slot = w.1 }

unfoldable pub write_field : Field Write
write_field = made_field write_of_parts (then_field key_field slot_field)

unfoldable pub done_field : Field ℕ
done_field = where_field is_version (number_field w64)

unfoldable pub refused_field : Field ℕ
refused_field = where_field is_fault_number byte_field

-- nothing for the empty text
abbrev pub unless_empty : List ℕ → Option (List ℕ)
unless_empty [] = None
unless_empty (byte ∷ bytes) = Some (byte ∷ bytes)

abbrev pub is_empty_or : (List ℕ → Bool) → List ℕ → Bool
is_empty_or test [] = true
is_empty_or test (byte ∷ bytes) = test (byte ∷ bytes)

-- a text that passes the test; or the empty text, which stands for nothing
unfoldable pub optional_field : (List ℕ → Bool) → Field (Option (List ℕ))
optional_field test = made_field unless_empty (where_field (is_empty_or test) text_field)

abbrev pub pair_of_parts : List ℕ × (ℕ × (ℕ × ℕ)) → Pair
pair_of_parts p = record { owner = p.0; held = p.1.0; floor = p.1.1.0; progress = p.1.1.1 }

unfoldable pub pair_field : Field Pair
pair_field = made_field pair_of_parts (then_field name_field (then_field (number_field w64) (then_field (number_field w64) (number_field w64))))

abbrev pub digest_of_parts : Bool × (Option (List ℕ) × (Option (List ℕ) × List Pair)) → Digest
digest_of_parts d = digest_of d.0 d.1.0 d.1.1.0 d.1.1.1

unfoldable pub digest_field : Field Digest
digest_field = where_field are_digest_parts (made_field digest_of_parts (then_field flag_field (then_field (optional_field is_name) (then_field (optional_field is_name) (list_field pair_field)))))

unfoldable pub prefix_field : Field (List ℕ)
prefix_field = where_field is_prefix text_field

-- both, or neither
abbrev pub are_alike : Option (List ℕ) × Option (List ℕ) → Bool
are_alike p = beq (is_some p.0) (is_some p.1)

abbrev pub place_of : Option (List ℕ) × Option (List ℕ) → Option (List ℕ × List ℕ)
place_of p = option_zip p.0 p.1

unfoldable pub place_field : Field (Option (List ℕ × List ℕ))
place_field = made_field place_of (where_field are_alike (then_field (optional_field is_name) (optional_field is_key)))

abbrev pub ask_of : Option (List ℕ) × (List ℕ × Option (List ℕ × List ℕ)) → Ask
ask_of a = record { owner = a.0; prefix = a.1.0; after = a.1.1 }

unfoldable pub ask_field : Field Ask
ask_field = made_field ask_of (then_field (optional_field is_name) (then_field prefix_field place_field))

-- the version of the row is that of a write
abbrev pub is_written : List ℕ × (List ℕ × (ℕ × Value)) → Bool
is_written r = is_version r.1.1.0

abbrev pub row_of_parts : List ℕ × (List ℕ × (ℕ × Value)) → Row
row_of_parts r = row_of r.0 r.1.0 r.1.1.0 r.1.1.1

unfoldable pub row_field : Field Row
row_field = made_field row_of_parts (where_field is_written (then_field name_field (then_field key_field (then_field (number_field w64) value_field))))

abbrev pub are_page_parts : Bool × List Row → Bool
are_page_parts p = are_page_rows p.1

abbrev pub page_of : Bool × List Row → Rows
page_of p = rows_of p.0 p.1

unfoldable pub page_field : Field Rows
page_field = made_field page_of (where_field are_page_parts (then_field flag_field (list_field row_field)))

unfoldable pub ask_status_field : Field ℕ
ask_status_field = number_field w64

unfoldable pub short_text_field : Field (List ℕ)
short_text_field = where_field is_short_text text_field

abbrev pub identity_of_parts : List ℕ × (List ℕ × List ℕ) → NodeIdentity
identity_of_parts i = record { node = i.0; cluster = i.1.0; release = i.1.1 }

unfoldable pub identity_field : Field NodeIdentity
identity_field = made_field identity_of_parts (then_field name_field (then_field name_field short_text_field))

abbrev pub figure_of_parts : ℕ × ℕ → Figure
figure_of_parts f = figure_of f.0 f.1

unfoldable pub figure_field : Field Figure
figure_field = made_field figure_of_parts (then_field byte_field (number_field w64))

abbrev pub peer_of_parts : List ℕ × (ℕ × ℕ) → Peer
peer_of_parts p = record { path = p.0; state = p.1.0; round = p.1.1 }

unfoldable pub peer_field : Field Peer
peer_field = made_field peer_of_parts (then_field short_text_field (then_field byte_field (number_field w64)))

abbrev pub status_of_parts : Bool × (NodeIdentity × (List Figure × List Peer)) → NodeStatus
status_of_parts s = status_of s.0 s.1.0 s.1.1.0 s.1.1.1

unfoldable pub status_field : Field NodeStatus
status_field = where_field are_status_parts (made_field status_of_parts (then_field flag_field (then_field identity_field (then_field (list_field figure_field) (list_field peer_field)))))

abbrev pub ask_change_of : Option (List ℕ) × (List ℕ × ℕ) → AskChange
ask_change_of a = record { owner = a.0; prefix = a.1.0; wait = a.1.1 }

unfoldable pub ask_change_field : Field AskChange
ask_change_field = made_field ask_change_of (then_field (optional_field is_name) (then_field prefix_field (number_field w64)))

abbrev pub notice_cases : List (ℕ × Field Notice)
notice_cases = (1, given_field Watching) ∷ (2, given_field Changed) ∷ (3, given_field Same) ∷ []

unfoldable pub notice_field : Field Notice
notice_field = tagged_field notice_cases

abbrev pub age_of_parts : List ℕ × ℕ → OwnerAge
age_of_parts a = record { owner = a.0; age = a.1 }

unfoldable pub age_field : Field OwnerAge
age_field = made_field age_of_parts (then_field name_field (number_field w64))

unfoldable pub ages_field : Field (List OwnerAge)
ages_field = where_field are_owner_ages (list_field age_field)
