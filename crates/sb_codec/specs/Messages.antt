-- Which payload spells which message, and what a payload is read as.
use Rattle.std.specs.Prelude.{◌≡◌, ℕ, ◌≤◌, Bool, true, ◌||◌, ◌==◌, if◌then◌else◌, List, [], ◌∷◌, length, Result, ok_or}
use Rattle.sb_types.specs.declared.fault.Fault.{Fault}
use Rattle.sb_types.specs.declared.fault.Fault.TheVariants.{UnknownKind, Malformed}
use Rattle.sb_types.specs.declared.limits.TheConstants.{PAYLOAD_MOST}
use Rattle.sb_types.specs.Limits.{is_delta}
use Rattle.sb_digest.specs.Limits.{is_digest}
use Rattle.sb_codec.specs.declared.message.Message.{Message}
use Rattle.sb_codec.specs.declared.message.Message.TheVariants.{Hello, Digest, Delta, Bye, Ask, Rows, Put, Done, Refused, AskStatus, NodeStatus, AskChange, Notice, AskAges, Ages}
use Rattle.sb_types.specs.declared.format.TheConstants.{KIND_HELLO, KIND_DIGEST, KIND_DELTA, KIND_BYE, KIND_ASK, KIND_ROWS, KIND_PUT, KIND_DONE, KIND_REFUSED, KIND_ASK_STATUS, KIND_NODE_STATUS, KIND_ASK_CHANGE, KIND_NOTICE, KIND_ASK_AGES, KIND_AGES}
use Rattle.sb_codec.specs.Limits.{is_hello, is_reason, is_ask, is_page, is_write, is_version, is_fault_number, is_count, is_status, is_ask_change, are_ages}
use Rattle.std.specs.Int.{w64}
use Rattle.sb_types.specs.Text.{is_between}
use Rattle.sb_codec.specs.Spelling.{number, list, block, hello, digest, ask, page, write, status, ask_change, number_of_notice, owner_age}
use Rattle.sb_codec.specs.Fields.{Field, given_field, made_field, tagged_field, whole_value}
use Rattle.sb_codec.specs.Reading.{delta_field, hello_field, digest_field, bye_field, ask_field, page_field, write_field, done_field, refused_field, ask_status_field, status_field, ask_change_field, notice_field, ages_field}

-- the kind, and the body
unfoldable pub spelling : Message → List ℕ
spelling (Hello greeting) = KIND_HELLO ∷ hello greeting
spelling (Digest told) = KIND_DIGEST ∷ digest told
spelling (Delta blocks) = KIND_DELTA ∷ list block blocks
spelling (Bye reason) = KIND_BYE ∷ reason ∷ []
spelling (Ask asked) = KIND_ASK ∷ ask asked
spelling (Rows rows) = KIND_ROWS ∷ page rows
spelling (Put wanted) = KIND_PUT ∷ write wanted
spelling (Done version) = KIND_DONE ∷ number w64 version
spelling (Refused fault) = KIND_REFUSED ∷ fault ∷ []
spelling (AskStatus after) = KIND_ASK_STATUS ∷ number w64 after
spelling (NodeStatus told) = KIND_NODE_STATUS ∷ status told
spelling (AskChange asked) = KIND_ASK_CHANGE ∷ ask_change asked
spelling (Notice notice) = KIND_NOTICE ∷ number_of_notice notice ∷ []
spelling AskAges = KIND_ASK_AGES ∷ []
spelling (Ages ages) = KIND_AGES ∷ list owner_age ages

abbrev pub is_message : Message → Bool
is_message (Hello greeting) = is_hello greeting
is_message (Digest told) = is_digest told
is_message (Delta blocks) = is_delta blocks
is_message (Bye reason) = is_reason reason
is_message (Ask asked) = is_ask asked
is_message (Rows rows) = is_page rows
is_message (Put wanted) = is_write wanted
is_message (Done version) = is_version version
is_message (Refused fault) = is_fault_number fault
is_message (AskStatus after) = is_count after
is_message (NodeStatus told) = is_status told
is_message (AskChange asked) = is_ask_change asked
is_message (Notice notice) = true
is_message AskAges = true
is_message (Ages ages) = are_ages ages

-- the payload is the spelling of the message, and both are within their limits
pub record Spells (payload : List ℕ) (message : Message) : Type 0 where
  pub limits : is_message message ≡ true
  pub most : length payload ≤ PAYLOAD_MOST
  pub bytes : payload ≡ spelling message

-- the payload spells no other message, and no other payload spells this one
pub record IsSole (payload : List ℕ) (message : Message) : Type 0 where
  pub sole_message : (other : Message) → Spells payload other → other ≡ message
  pub sole_payload : (other : List ℕ) → Spells other message → other ≡ payload

abbrev pub is_kind : ℕ → Bool
is_kind kind = is_between KIND_HELLO KIND_BYE kind || is_between KIND_ASK KIND_AGES kind

-- a message of such a kind has lists, addresses or texts, which are kept in allocated memory
abbrev pub is_kept_in_memory : ℕ → Bool
is_kept_in_memory kind = kind == KIND_DIGEST || kind == KIND_DELTA || kind == KIND_ROWS || kind == KIND_PUT || kind == KIND_NODE_STATUS || kind == KIND_AGES

-- the payload begins with such a kind
abbrev pub TakesMemory : List ℕ → Type 0
TakesMemory [] = ⊥
TakesMemory (kind ∷ body) = is_kept_in_memory kind ≡ true

-- why a payload that spells no message is refused
abbrev pub fault_of : List ℕ → Fault
fault_of [] = UnknownKind 0
fault_of (kind ∷ body) = if is_kind kind then Malformed kind else UnknownKind kind

abbrev pub message_cases : List (ℕ × Field Message)
message_cases =
    (KIND_HELLO, made_field Hello hello_field)
    ∷ (KIND_DIGEST, made_field Digest digest_field)
    ∷ (KIND_DELTA, made_field Delta delta_field)
    ∷ (KIND_BYE, made_field Bye bye_field)
    ∷ (KIND_ASK, made_field Ask ask_field)
    ∷ (KIND_ROWS, made_field Rows page_field)
    ∷ (KIND_PUT, made_field Put write_field)
    ∷ (KIND_DONE, made_field Done done_field)
    ∷ (KIND_REFUSED, made_field Refused refused_field)
    ∷ (KIND_ASK_STATUS, made_field AskStatus ask_status_field)
    ∷ (KIND_NODE_STATUS, made_field NodeStatus status_field)
    ∷ (KIND_ASK_CHANGE, made_field AskChange ask_change_field)
    ∷ (KIND_NOTICE, made_field Notice notice_field)
    ∷ (KIND_ASK_AGES, given_field AskAges)
    ∷ (KIND_AGES, made_field Ages ages_field)
    ∷ []

unfoldable pub message_field : Field Message
message_field = tagged_field message_cases

-- the message that all of the payload spells, or the fault
unfoldable pub reading : List ℕ → Result Message Fault
reading payload = ok_or (whole_value message_field payload) (fault_of payload)
