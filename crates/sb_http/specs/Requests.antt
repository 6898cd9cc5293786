-- What a request asks for: a function of the door where it came in, and of its host, method, path, query and body.
use Rattle.std.specs.Prelude.{ℕ, Bool, true, ◌||◌, nat_eq, if◌then◌else◌, List, [], length, take, drop, codes, Option, Some, None, option_map, unwrap_or, Result, Ok, Err}
use Rattle.std.specs.Str.{bytes_eq}
use Rattle.std.specs.Cmp.Lexicographic.{pointwise}
use Rattle.http.specs.declared.request.Request.{Request}
use Rattle.http.specs.Request.{head_of, body_of}
use Rattle.http_uri.specs.Uri.{uri_path, uri_query}
use Rattle.sb_types.specs.declared.entry.Slot.{Slot}
use Rattle.sb_types.specs.declared.entry.Slot.TheVariants.{Set, Removed}
use Rattle.sb_http.specs.declared.operation.Operation.{Operation}
use Rattle.sb_http.specs.declared.operation.Operation.TheVariants.{Health, Metrics, Owners, Page, Put}
use Rattle.sb_http.specs.declared.operation.Door.{Door}
use Rattle.sb_http.specs.declared.operation.Door.TheVariants.{Socket, Port}
use Rattle.sb_http.specs.declared.operation.Refusal.{Refusal}
use Rattle.sb_http.specs.declared.operation.Refusal.TheVariants.{OtherHost, NotFound, NotAllowed, OnlyWritten, NotByPort}
use Rattle.sb_http.specs.Hosts.{names_local_host}
use Rattle.sb_http.specs.WriteBodies.{value_in}
pub use Rattle.sb_http.specs.RowsQueries.{then_read, query_asked, row_asked, key_asked_by, key_at}

abbrev pub is_reading : List ℕ → Bool
is_reading method = bytes_eq method (codes "GET") || bytes_eq method (codes "HEAD")

-- what is asked for, if the method reads
abbrev pub reading : List ℕ → Result Operation Refusal → Result Operation Refusal
reading method asked = if is_reading method then asked else Err NotAllowed

abbrev pub is_writing : List ℕ → Bool
is_writing method = bytes_eq method (codes "PUT") || bytes_eq method (codes "DELETE")

abbrev pub port_refusal : Door → Option Refusal
port_refusal Socket = None
port_refusal Port = Some NotByPort

-- a path that is written is written by these methods, and never by a port
abbrev pub write_refusal : Door → List ℕ → Option Refusal
write_refusal door method = if is_writing method then port_refusal door else Some OnlyWritten

-- a PUT has a value in its body, and a DELETE removes what is there
abbrev pub slot_by : List ℕ → List ℕ → Result Slot Refusal
slot_by method body = if bytes_eq method (codes "PUT") then then_read (value_in body) (λ value. Ok (Set value)) else Ok Removed

abbrev pub written_as : List ℕ → Result Slot Refusal → Result Operation Refusal
written_as key slot = then_read slot (λ slot. Ok (Put (record { key = key; slot = slot })))

-- what is asked for, if the key may be written
abbrev pub unless_refused : Option Refusal → Result Operation Refusal → Result Operation Refusal
unless_refused None asked = asked
unless_refused (Some why) asked = Err why

abbrev pub writing : Door → List ℕ → List ℕ → Result (List ℕ) Refusal → Result Operation Refusal
writing door method body key = unless_refused (write_refusal door method) (then_read key (λ key. written_as key (slot_by method body)))

-- the path without this beginning, if it has it
abbrev pub after_start : List ℕ → List ℕ → Option (List ℕ)
after_start start path = if pointwise nat_eq (take (length start) path) start then Some (drop (length start) path) else None

abbrev pub asked_for_key : Door → List ℕ → List ℕ → Option (List ℕ) → Result Operation Refusal
asked_for_key door method body None = Err NotFound
asked_for_key door method body (Some place) = writing door method body (key_at place)

abbrev pub asked_for_row : List ℕ → Option (List ℕ) → Result Operation Refusal → Result Operation Refusal
asked_for_row method None others = others
asked_for_row method (Some place) others = reading method (row_asked place)

-- the path of a row or of a key, or an unknown path
abbrev pub asked_at_place : Door → List ℕ → List ℕ → List ℕ → Result Operation Refusal
asked_at_place door method path body =
    asked_for_row method (after_start (codes "/v1/rows/") path) (asked_for_key door method body (after_start (codes "/v1/keys/") path))

-- what a method asks of a path, with this query and body
abbrev pub asked_at : Door → List ℕ → List ℕ → List ℕ → List ℕ → Result Operation Refusal
asked_at door method path query body =
    if bytes_eq path (codes "/v1/rows") then reading method (query_asked query)
    else if bytes_eq path (codes "/v1/owners") then reading method (Ok Owners)
    else if bytes_eq path (codes "/healthz") then reading method (Ok Health)
    else if bytes_eq path (codes "/metrics") then reading method (Ok Metrics)
    else if bytes_eq path (codes "/") then reading method (Ok Page)
    else if bytes_eq path (codes "/v1/keys") then writing door method body (key_asked_by query)
    else asked_at_place door method path body

abbrev pub query_of : Request (List ℕ) → List ℕ
query_of request = unwrap_or (uri_query (head_of request).uri) []

-- at a port the request has to name this machine
abbrev pub is_open : Door → Request (List ℕ) → Bool
is_open Socket request = true
is_open Port request = names_local_host request

abbrev pub asked_by : Door → Request (List ℕ) → Result Operation Refusal
asked_by door request =
    if is_open door request
    then asked_at door (head_of request).method (uri_path (head_of request).uri) (query_of request) (body_of request)
    else Err OtherHost
