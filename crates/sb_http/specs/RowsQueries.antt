-- What the parameters of a query, or a place in a path, ask for.
use Rattle.std.specs.Prelude.{ℕ, ◌+◌, ◌-◌, ◌*◌, nat_le, Bool, true, false, ◌&&◌, ◌||◌, ◌==◌, if◌then◌else◌, List, [], ◌∷◌, length, codes, Option, Some, None, is_some, unwrap_or, Result, Ok, Err}
use Rattle.std.specs.Char.{is_ascii_digit}
use Rattle.std.specs.Str.{bytes_eq}
use Rattle.percent_encoding.specs.Percent.{percent_decode}
use Rattle.sb_types.specs.declared.fault.Fault.TheVariants.{BadName, BadKey}
use Rattle.sb_types.specs.Text.{is_name, is_key, is_prefix}
use Rattle.sb_http.specs.declared.operation.Operation.{Operation}
use Rattle.sb_codec.specs.declared.message.ask.Ask as asking
use Rattle.sb_http.specs.declared.operation.Operation.TheVariants.{Rows, Row, Poll}
use Rattle.sb_http.specs.declared.operation.Refusal.{Refusal}
use Rattle.sb_http.specs.declared.operation.Refusal.TheVariants.{Bad, BadPlace, UnknownParameter, BadParameters, NoKey, BadWait}
use Rattle.sb_http.specs.declared.rows_query.RowsQuery.{RowsQuery}
use Rattle.sb_http.specs.Parts.{parted, all_parts}

-- what is made of what was read, unless that failed
abbrev pub then_read : {X Y : Type 0} → Result X Refusal → (X → Result Y Refusal) → Result Y Refusal
then_read (Ok x) next = next x
then_read (Err why) next = Err why

abbrev pub owner_in : List ℕ → Result (List ℕ) Refusal
owner_in text = if is_name text then Ok text else Err (Bad BadName)

abbrev pub key_in : List ℕ → Result (List ℕ) Refusal
key_in text = if is_key text then Ok text else Err (Bad BadKey)

abbrev pub prefix_in : List ℕ → Result (List ℕ) Refusal
prefix_in text = if is_prefix text then Ok text else Err (Bad BadKey)

-- an owner, a slash, and a key
abbrev pub place_of : Option (List ℕ × List ℕ) → Result (List ℕ × List ℕ) Refusal
place_of None = Err BadPlace
place_of (Some parts) = then_read (owner_in parts.0) (λ owner. then_read (key_in parts.1) (λ key. Ok (owner, key)))

abbrev pub place_in : List ℕ → Result (List ℕ × List ℕ) Refusal
place_in text = place_of (parted 47 text)

abbrev pub no_parameters : RowsQuery
no_parameters = record { owner = None; prefix = None; key = None; after = None; wait = None; seen = None }

-- no parameter may come twice
abbrev pub once : {X : Type 0} → Option X → Result RowsQuery Refusal → Result RowsQuery Refusal
once given taken = if is_some given then Err BadParameters else taken

abbrev pub with_owner : RowsQuery → List ℕ → Result RowsQuery Refusal
with_owner q text = once q.owner (then_read (owner_in text) (λ owner. Ok (record q { owner = Some owner })))

abbrev pub with_prefix : RowsQuery → List ℕ → Result RowsQuery Refusal
with_prefix q text = once q.prefix (then_read (prefix_in text) (λ prefix. Ok (record q { prefix = Some prefix })))

abbrev pub with_key : RowsQuery → List ℕ → Result RowsQuery Refusal
with_key q text = once q.key (then_read (key_in text) (λ key. Ok (record q { key = Some key })))

abbrev pub with_after : RowsQuery → List ℕ → Result RowsQuery Refusal
with_after q text = once q.after (then_read (place_in text) (λ place. Ok (record q { after = Some place })))

-- one digit or two, and an s: up to 60 seconds
abbrev pub up_to_sixty : ℕ → Option ℕ
up_to_sixty seconds = if nat_le seconds 60 then Some seconds else None

abbrev pub seconds_in : List ℕ → Option ℕ
seconds_in (one ∷ s ∷ []) = if is_ascii_digit one && s == 115 then Some (one - 48) else None
seconds_in (ten ∷ one ∷ s ∷ []) = if is_ascii_digit ten && is_ascii_digit one && s == 115 then up_to_sixty (10 * (ten - 48) + (one - 48)) else None
seconds_in text = None

abbrev pub or_bad_wait : {X : Type 0} → Option X → Result X Refusal
or_bad_wait (Some x) = Ok x
or_bad_wait None = Err BadWait

abbrev pub with_wait : RowsQuery → List ℕ → Result RowsQuery Refusal
with_wait q text = once q.wait (then_read (or_bad_wait (seconds_in text)) (λ seconds. Ok (record q { wait = Some seconds })))

-- a mark is opaque: it has the bytes of a key
abbrev pub with_seen : RowsQuery → List ℕ → Result RowsQuery Refusal
with_seen q text = once q.seen (if is_key text then Ok (record q { seen = Some text }) else Err BadWait)

abbrev pub with_poll_parameter : RowsQuery → List ℕ → List ℕ → Result RowsQuery Refusal
with_poll_parameter q name value =
    if bytes_eq name (codes "wait") then with_wait q value
    else if bytes_eq name (codes "seen") then with_seen q value
    else Err UnknownParameter

abbrev pub with_parameter : RowsQuery → List ℕ → List ℕ → Result RowsQuery Refusal
with_parameter q name value =
    if bytes_eq name (codes "owner") then with_owner q value
    else if bytes_eq name (codes "prefix") then with_prefix q value
    else if bytes_eq name (codes "key") then with_key q value
    else if bytes_eq name (codes "after") then with_after q value
    else with_poll_parameter q name value

-- the value may have escapes
abbrev pub with_pair : RowsQuery → Option (List ℕ × List ℕ) → Result RowsQuery Refusal
with_pair q None = Err UnknownParameter
with_pair q (Some pair) = with_parameter q pair.0 (percent_decode pair.1)

-- a name, an equals sign and a value; or nothing
abbrev pub with_part : RowsQuery → List ℕ → Result RowsQuery Refusal
with_part q part = if length part == 0 then Ok q else with_pair q (parted 61 part)

abbrev pub with_parts : RowsQuery → List (List ℕ) → Result RowsQuery Refusal
with_parts q [] = Ok q
with_parts q (part ∷ parts) = then_read (with_part q part) (λ next. with_parts next parts)

-- the parts between the ampersands, from the first on
abbrev pub with_query : RowsQuery → List ℕ → Result RowsQuery Refusal
with_query q query = with_parts q (all_parts 38 query)

-- without a prefix, the rows of all keys
abbrev pub rows_asked : Option (List ℕ) → Option (List ℕ) → Option (List ℕ × List ℕ) → asking.Ask
rows_asked owner prefix after = record { owner = owner; prefix = unwrap_or prefix []; after = after }

-- a mark goes with a time to wait
abbrev pub polled : asking.Ask → Option ℕ → Option (List ℕ) → Result Operation Refusal
polled ask (Some seconds) seen = Ok (Poll ask (record { seconds = seconds; seen = seen }))
polled ask None (Some seen) = Err BadWait
polled ask None None = Ok (Rows ask)

-- a key goes with an owner alone
abbrev pub key_asked : Option (List ℕ) → List ℕ → Bool → Result Operation Refusal
key_asked (Some owner) key false = Ok (Row owner key)
key_asked owner key others = Err BadParameters

abbrev pub asked_by_key : RowsQuery → Option (List ℕ) → Result Operation Refusal
asked_by_key q None = polled (rows_asked q.owner q.prefix q.after) q.wait q.seen
asked_by_key q (Some key) = key_asked q.owner key (is_some q.prefix || is_some q.after || is_some q.wait || is_some q.seen)

abbrev pub asked_with : RowsQuery → Result Operation Refusal
asked_with q = asked_by_key q q.key

abbrev pub query_asked : List ℕ → Result Operation Refusal
query_asked query = then_read (with_query no_parameters query) asked_with

-- a key alone
abbrev pub key_unless : Option (List ℕ) → Bool → Result (List ℕ) Refusal
key_unless (Some key) false = Ok key
key_unless (Some key) true = Err BadParameters
key_unless None others = Err NoKey

abbrev pub only_key : RowsQuery → Result (List ℕ) Refusal
only_key q = key_unless q.key (is_some q.owner || is_some q.prefix || is_some q.after || is_some q.wait || is_some q.seen)

-- the key that a query names
abbrev pub key_asked_by : List ℕ → Result (List ℕ) Refusal
key_asked_by query = then_read (with_query no_parameters query) only_key

-- the key that is the end of a path, which may have escapes
abbrev pub key_at : List ℕ → Result (List ℕ) Refusal
key_at place = key_in (percent_decode place)

-- the place may have escapes
abbrev pub row_asked : List ℕ → Result Operation Refusal
row_asked place = then_read (place_in (percent_decode place)) (λ place. Ok (Row place.0 place.1))
