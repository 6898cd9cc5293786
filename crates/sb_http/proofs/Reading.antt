-- What is asked for at a port, or by a method that does not write, gets a message that asks for something.
use Rattle.std.proofs.Common.{◌≡◌, ℕ, Bool, true, false, if◌then◌else◌, List, codes, is_some, Option, Some, None, Result, Ok, Err, refl, sym, ap, subst}
use Rattle.std.specs.Str.{bytes_eq}
use Rattle.http.specs.declared.request.Request.{Request}
use Rattle.http.specs.Request.{head_of, body_of}
use Rattle.http_uri.specs.Uri.{uri_path}
use Rattle.percent_encoding.specs.Percent.{percent_decode}
use Rattle.sb_types.specs.declared.entry.Slot.{Slot}
use Rattle.sb_codec.specs.declared.message.ask.Ask as asking
use Rattle.sb_http.specs.declared.operation.Operation.{Operation}
use Rattle.sb_http.specs.declared.operation.Operation.TheVariants.{Health, Metrics, Owners, Page, Rows, Row, Poll, Put}
use Rattle.sb_http.specs.declared.operation.Door.{Door}
use Rattle.sb_http.specs.declared.operation.Door.TheVariants.{Socket, Port}
use Rattle.sb_http.specs.declared.operation.Refusal.{Refusal}
use Rattle.sb_http.specs.declared.operation.Refusal.TheVariants.{NotByPort, OnlyWritten}
use Rattle.sb_http.specs.declared.rows_query.RowsQuery.{RowsQuery}
use Rattle.sb_http.specs.RowsQueries.{polled, then_read, asked_by_key, asked_with, key_asked, rows_asked, query_asked, with_query, no_parameters, row_asked, place_in}
use Rattle.sb_http.specs.Requests.{is_open, is_reading, is_writing, reading, writing, write_refusal, port_refusal, unless_refused, written_as, slot_by, asked_for_key, asked_for_row, asked_at_place, asked_at, asked_by, after_start, query_of, key_asked_by, key_at}
use Rattle.sb_http.specs.Acts.{Act, asks, puts, polls, lists, measures, fails, IsQuestion, OnlyReads}
use Rattle.sb_http.specs.Answers.{IsCallFor}

-- what is asked for is no write
abbrev IsRead : Operation → Type 0
IsRead (Put write) = ⊥
IsRead Health = Unit {0}
IsRead Metrics = Unit {0}
IsRead Owners = Unit {0}
IsRead Page = Unit {0}
IsRead (Rows ask) = Unit {0}
IsRead (Row owner key) = Unit {0}
IsRead (Poll ask patience) = Unit {0}

abbrev OnlyAsks : Result Operation Refusal → Type 0
OnlyAsks (Ok asked) = IsRead asked
OnlyAsks (Err why) = Unit {0}

chosen : (b : Bool) (x y : Result Operation Refusal) → OnlyAsks x → OnlyAsks y → OnlyAsks (if b then x else y)
chosen true x y this that = this
chosen false x y this that = that

then_asks : {X : Type 0} (x : Result X Refusal) (next : X → Result Operation Refusal) → ((it : X) → OnlyAsks (next it)) → OnlyAsks (then_read x next)
then_asks (Ok it) next each = each it
then_asks (Err why) next each = tt

key_reads : (owner : Option (List ℕ)) (key : List ℕ) (others : Bool) → OnlyAsks (key_asked owner key others)
key_reads (Some owner) key false = tt
key_reads (Some owner) key true = tt
key_reads None key others = tt

polled_reads : (ask : asking.Ask) (wait : Option ℕ) (seen : Option (List ℕ)) → OnlyAsks (polled ask wait seen)
polled_reads ask (Some seconds) seen = tt
polled_reads ask None (Some seen) = tt
polled_reads ask None None = tt

by_key_reads : (q : RowsQuery) (key : Option (List ℕ)) → OnlyAsks (asked_by_key q key)
by_key_reads q None = polled_reads _ q.wait q.seen
by_key_reads q (Some key) = key_reads q.owner key _

query_reads : (query : List ℕ) → OnlyAsks (query_asked query)
query_reads query = then_asks (with_query no_parameters query) asked_with (λ q. by_key_reads q q.key)

row_reads : (place : List ℕ) → OnlyAsks (row_asked place)
row_reads place = then_asks {X = List ℕ × List ℕ} (place_in (percent_decode place)) (λ found. Ok (Row found.0 found.1)) (λ found. tt)

refused_asks : (why : Option Refusal) (asked : Result Operation Refusal) → is_some why ≡ true → OnlyAsks (unless_refused why asked)
refused_asks (Some why) asked is = tt
refused_asks None asked is = absurd cc

for_key_asks : (door : Door) (method body : List ℕ) (place : Option (List ℕ)) → is_some (write_refusal door method) ≡ true → OnlyAsks (asked_for_key door method body place)
for_key_asks door method body None is = tt
for_key_asks door method body (Some place) is = refused_asks (write_refusal door method) _ is

for_row_asks : (method : List ℕ) (place : Option (List ℕ)) (others : Result Operation Refusal) → OnlyAsks others → OnlyAsks (asked_for_row method place others)
for_row_asks method None others only = only
for_row_asks method (Some place) others only = chosen (is_reading method) _ _ (row_reads place) tt

at_asks : (door : Door) (method path query body : List ℕ) → is_some (write_refusal door method) ≡ true → OnlyAsks (asked_at door method path query body)
at_asks door method path query body is =
    chosen (bytes_eq path (codes "/v1/rows")) _ _ (chosen (is_reading method) _ _ (query_reads query) tt)
    (chosen (bytes_eq path (codes "/v1/owners")) _ _ (chosen (is_reading method) _ _ tt tt)
    (chosen (bytes_eq path (codes "/healthz")) _ _ (chosen (is_reading method) _ _ tt tt)
    (chosen (bytes_eq path (codes "/metrics")) _ _ (chosen (is_reading method) _ _ tt tt)
    (chosen (bytes_eq path (codes "/")) _ _ (chosen (is_reading method) _ _ tt tt)
    (chosen (bytes_eq path (codes "/v1/keys")) _ _ (refused_asks (write_refusal door method) _ is)
    (for_row_asks method (after_start (codes "/v1/rows/") path) (asked_for_key door method body (after_start (codes "/v1/keys/") path))
    (for_key_asks door method body (after_start (codes "/v1/keys/") path) is)))))))

by_asks : (door : Door) (request : Request (List ℕ)) → is_some (write_refusal door (head_of request).method) ≡ true → OnlyAsks (asked_by door request)
by_asks door request is = chosen (is_open door request) _ _ (at_asks door (head_of request).method (uri_path (head_of request).uri) (query_of request) (body_of request) is) tt

port_refused : (b : Bool) → is_some (if b then Some NotByPort else Some OnlyWritten) ≡ true
port_refused true = refl
port_refused false = refl

only_reads : (asked : Operation) (act : Act) → IsRead asked → IsCallFor asked act → OnlyReads act
only_reads asked (polls ask patience reply mark) read call = tt
only_reads asked (lists owners) read call = tt
only_reads asked (measures text) read call = tt
only_reads asked (fails fault) read call = tt
only_reads (Rows ask) (asks request reply) read call = subst IsQuestion (sym call) tt
only_reads (Row owner key) (asks request reply) read call = subst IsQuestion (sym call) tt
only_reads Health (asks request reply) read call = subst IsQuestion (sym call) tt
only_reads Owners (asks request reply) read call = absurd call
only_reads (Poll ask patience) (asks request reply) read call = absurd call
only_reads Page (asks request reply) read call = absurd call
only_reads Metrics (asks request reply) read call = absurd call
only_reads (Put write) (asks request reply) read call = absurd read
only_reads (Put write) (puts asked reply) read call = absurd read
only_reads (Rows ask) (puts asked reply) read call = absurd call
only_reads (Row owner key) (puts asked reply) read call = absurd call
only_reads Health (puts asked reply) read call = absurd call
only_reads Owners (puts asked reply) read call = absurd call
only_reads (Poll ask patience) (puts asked reply) read call = absurd call
only_reads Page (puts asked reply) read call = absurd call
only_reads Metrics (puts asked reply) read call = absurd call

pub at_ports : (request : Request (List ℕ)) (asked : Operation) (act : Act) → asked_by Port request ≡ Ok asked → IsCallFor asked act → OnlyReads act
at_ports request asked act is call = only_reads asked act (subst OnlyAsks is (by_asks Port request (port_refused (is_writing (head_of request).method)))) call

unwritten : (door : Door) (method : List ℕ) → is_writing method ≡ false → is_some (write_refusal door method) ≡ true
unwritten door method not = subst (λ (b : Bool). is_some (if b then port_refusal door else Some OnlyWritten) ≡ true) (sym not) refl

pub by_others : (door : Door) (request : Request (List ℕ)) (asked : Operation) (act : Act) → is_writing (head_of request).method ≡ false → asked_by door request ≡ Ok asked → IsCallFor asked act → OnlyReads act
by_others door request asked act not is call = only_reads asked act (subst OnlyAsks is (by_asks door request (unwritten door (head_of request).method not))) call
