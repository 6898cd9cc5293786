-- What a response contains: a function of what was asked for, and of what the backend answered.
use Rattle.std.specs.Prelude.{◌≡◌, ◌⊎◌, ℕ, List, [], ◌∷◌, ◌++◌, codes, if◌then◌else◌, Option, Some, None, Result, Ok, Err}
use Rattle.http.specs.declared.request.Request.{Request}
use Rattle.http1.specs.Fields.{Header}
use Rattle.http_server.specs.declared.response.Response.{Response}
use Rattle.http_server.specs.Response.{IsResponse, fields_of}
use Rattle.sb_types.specs.declared.fault.Fault.{Fault}
use Rattle.sb_types.specs.declared.fault.Fault.TheVariants.{BadKey, BadValue, UnknownKind, TableFull, VersionsSpent, NothingThere, OwnerConflict}
use Rattle.sb_types.specs.Faults.{number_of}
use Rattle.sb_codec.specs.declared.message.Message.{Message}
use Rattle.sb_codec.specs.declared.message.Message.TheVariants as kinds
use Rattle.sb_codec.specs.declared.message.ask.Ask as asking
use Rattle.sb_codec.specs.Records as records
use Rattle.sb_query.specs.declared.answers.NoAnswer.{NoAnswer}
use Rattle.sb_query.specs.declared.answers.NoAnswer.TheVariants as reasons
use Rattle.sb_query.specs.Answers.{TellsPage, TellsStatus, TellsVersion}
use Rattle.sb_query.specs.Statuses.{is_ready}
use Rattle.sb_query.specs.Pages.{first_at}
use Rattle.sb_listing.specs.Json.{row_data}
use Rattle.sb_http.specs.declared.operation.Operation.{Operation}
use Rattle.sb_http.specs.declared.operation.Operation.TheVariants.{Health, Metrics, Owners, Page, Rows, Row, Poll, Put}
use Rattle.sb_http.specs.declared.operation.Door.{Door}
use Rattle.sb_http.specs.declared.operation.Refusal.{Refusal}
use Rattle.sb_http.specs.declared.operation.Refusal.TheVariants.{OtherHost, NotFound, NotAllowed, OnlyWritten, NotByPort, Bad, BadPlace, UnknownParameter, BadParameters, NoKey, BadWait, BadBody, BadKind, NoMemory}
use Rattle.sb_http.specs.declared.contents.Content as rust
use Rattle.sb_http.specs.declared.page.TheConstants.{PAGE, POLICY}
use Rattle.sb_http.specs.Acts.{Act, asks, puts, polls, lists, measures, fails}
use Rattle.sb_http.specs.Requests.{asked_by}
use Rattle.sb_http.specs.Texts.{line_of, page_data, marked_page_data, owners_data, health_data, version_data, error_data, fault_data}

-- a status and a body
abbrev pub Content : Type 0
Content = ℕ × List ℕ

abbrev pub json_kind : List ℕ
json_kind = codes "application/json"

-- the kind of the body
abbrev pub kind_of : Operation → List ℕ
kind_of Metrics = codes "text/plain; version=0.0.4"
kind_of asked = json_kind

-- the fields of each response whose body is of this kind
abbrev pub fields_for : List ℕ → List Header
fields_for kind =
    (codes "connection", codes "close") ∷ (codes "cache-control", codes "no-store") ∷ (codes "x-content-type-options", codes "nosniff")
    ∷ (codes "content-type", kind) ∷ []

abbrev pub is_error : ℕ → List ℕ → Content
is_error status text = (status, line_of (error_data text))

-- the number of a fault, with this text
abbrev pub is_fault : ℕ → Fault → List ℕ → Content
is_fault status fault text = (status, line_of (fault_data text (number_of fault)))

-- the number of a fault, with a text
abbrev pub IsFault : ℕ → Fault → Content → Type 0
IsFault status fault content = (text : List ℕ) × (content ≡ (status, line_of (fault_data text (number_of fault))))

-- why a message is no answer
abbrev pub IsNone : NoAnswer → Content → Type 0
IsNone (reasons.Refused fault) content = IsFault 503 fault content
IsNone (reasons.OtherKind kind) content = IsFault 503 (UnknownKind kind) content

abbrev pub IsPage : Result records.Rows NoAnswer → Content → Type 0
IsPage (Ok page) content = content ≡ (200, line_of (page_data page))
IsPage (Err reason) content = IsNone reason content

abbrev pub IsMarkedPage : List ℕ → Result records.Rows NoAnswer → Content → Type 0
IsMarkedPage mark (Ok page) content = content ≡ (200, line_of (marked_page_data mark page))
IsMarkedPage mark (Err reason) content = IsNone reason content

abbrev pub row_content : Option records.Row → Content
row_content None = is_error 404 (codes "there is no such row")
row_content (Some row) = (200, line_of (row_data row))

-- the first row of the page, if it is the one
abbrev pub IsRow : List ℕ → List ℕ → Result records.Rows NoAnswer → Content → Type 0
IsRow owner key (Ok page) content = content ≡ row_content (first_at page.rows owner key)
IsRow owner key (Err reason) content = IsNone reason content

abbrev pub IsHealth : Result records.NodeStatus NoAnswer → Content → Type 0
IsHealth (Ok status) content = content ≡ ((if is_ready status.figures then 200 else 503), line_of (health_data status.figures))
IsHealth (Err reason) content = IsNone reason content

-- the status of a write that was refused for this fault
abbrev pub put_status : Fault → ℕ
put_status NothingThere = 404
put_status (OwnerConflict version) = 409
put_status TableFull = 507
put_status VersionsSpent = 507
put_status fault = 503

abbrev pub IsUnwritten : NoAnswer → Content → Type 0
IsUnwritten (reasons.Refused fault) content = IsFault (put_status fault) fault content
IsUnwritten (reasons.OtherKind kind) content = IsFault 503 (UnknownKind kind) content

abbrev pub IsWritten : Result ℕ NoAnswer → Content → Type 0
IsWritten (Ok version) content = content ≡ (200, line_of (version_data version))
IsWritten (Err reason) content = IsUnwritten reason content

-- the question for the rows of the owner whose keys begin with this key, which has that of the key first
abbrev pub row_question : List ℕ → List ℕ → asking.Ask
row_question owner key = record { owner = Some owner; prefix = key; after = None }

-- the call of the backend asks it for what was asked for, and for nothing else
abbrev pub IsCallFor : Operation → Act → Type 0
IsCallFor (Rows ask) (asks request reply) = request ≡ kinds.Ask ask
IsCallFor (Row owner key) (asks request reply) = request ≡ kinds.Ask (row_question owner key)
IsCallFor Health (asks request reply) = request ≡ kinds.AskStatus 0
IsCallFor (Put write) (puts asked reply) = asked ≡ write
IsCallFor (Poll ask patience) (polls asked given reply mark) = (asked ≡ ask) × (given ≡ patience)
IsCallFor (Poll ask patience) (fails fault) = Unit {0}
IsCallFor Owners (lists owners) = Unit {0}
IsCallFor Owners (fails fault) = Unit {0}
IsCallFor Metrics (measures text) = Unit {0}
IsCallFor Metrics (fails fault) = Unit {0}
IsCallFor asked act = ⊥

-- the content that says what was asked for, by what a call of the backend answered
abbrev pub Says : Operation → Act → Content → Type 0
Says (Rows ask) (asks request reply) content = (page : Result records.Rows NoAnswer) × TellsPage reply page × IsPage page content
Says (Row owner key) (asks request reply) content =
    (page : Result records.Rows NoAnswer) × TellsPage reply page × IsRow owner key page content
Says Health (asks request reply) content =
    (status : Result records.NodeStatus NoAnswer) × TellsStatus reply status × IsHealth status content
Says (Poll ask patience) (polls asked given reply mark) content =
    (page : Result records.Rows NoAnswer) × TellsPage reply page × IsMarkedPage mark page content
Says (Poll ask patience) (fails fault) content = IsFault 503 fault content
Says (Put write) (puts asked reply) content = (version : Result ℕ NoAnswer) × TellsVersion reply version × IsWritten version content
Says Owners (lists owners) content = content ≡ (200, line_of (owners_data owners))
Says Owners (fails fault) content = IsFault 503 fault content
Says Metrics (measures text) content = content ≡ (200, text)
Says Metrics (fails fault) content = content ≡ (503, [])
Says asked act content = ⊥

abbrev pub Has : List Header → Content → Response → Type 0
Has fields content response = IsResponse content.0 fields content.1 response

-- the response has this content
abbrev pub HasContent : List Header → Result rust.Content Fault → Response → Type 0
HasContent fields (Ok content) response = Has fields (content.status, content.body.items) response
HasContent fields (Err fault) response = ⊥

-- the response has the fields that it had, and this content; or there was no memory for that
abbrev pub FillsOrShortens : Response → Result rust.Content Fault → Response → Type 0
FillsOrShortens old content new = HasContent (fields_of old) content new ⊎ Has (fields_of old) (503, []) new

-- the backend was called once, for this, and the response says what came of it; or there was no memory for that
abbrev pub AnswersAsked : {B : Type 0} → (B → Act → B → Type 0) → Operation → B → Response → B → Type 0
AnswersAsked step asked old response new =
    (act : Act) × step old act new × IsCallFor asked act
    × (((content : Content) × Says asked act content × Has (fields_for (kind_of asked)) content response)
    ⊎ Has (fields_for (kind_of asked)) (503, []) response)

-- why nothing is asked for
abbrev pub Refuses : Refusal → Response → Type 0
Refuses OtherHost response = Has (fields_for json_kind) (is_error 421 (codes "the host is not this machine")) response
Refuses NotFound response = Has (fields_for json_kind) (is_error 404 (codes "there is no such path")) response
Refuses NotAllowed response =
    Has (fields_for json_kind ++ (codes "allow", codes "GET, HEAD") ∷ []) (is_error 405 (codes "this path is only read; a key is written at /v1/keys/KEY")) response
Refuses OnlyWritten response =
    Has (fields_for json_kind ++ (codes "allow", codes "PUT, DELETE") ∷ []) (is_error 405 (codes "write by PUT, remove by DELETE; a row is read at /v1/rows/OWNER/KEY")) response
Refuses NotByPort response = Has (fields_for json_kind) (is_error 403 (codes "writes are taken at a Unix socket only")) response
Refuses (Bad fault) response = (content : Content) × IsFault 400 fault content × Has (fields_for json_kind) content response
Refuses BadPlace response =
    Has (fields_for json_kind) (is_fault 400 BadKey (codes "one row is at /v1/rows/OWNER/KEY, those of an owner at /v1/rows?owner=OWNER; after is OWNER/KEY")) response
Refuses UnknownParameter response =
    Has (fields_for json_kind) (is_error 400 (codes "there is no such parameter: rows take owner, prefix, after, wait and seen, or owner and key; a write takes key; each is NAME=VALUE")) response
Refuses BadParameters response =
    Has (fields_for json_kind) (is_error 400 (codes "each parameter comes once; key goes with owner alone, and in a write with no other")) response
Refuses NoKey response = Has (fields_for json_kind) (is_error 400 (codes "name the key: /v1/keys/KEY, or /v1/keys?key=KEY")) response
Refuses BadWait response =
    Has (fields_for json_kind) (is_error 400 (codes "wait is 0s to 60s, as in wait=30s; seen is a mark of an answer, and goes with wait")) response
Refuses BadBody response =
    Has (fields_for json_kind) (is_error 400 (codes "the body is JSON of this form: {\"kind\":\"weight\",\"value\":5}")) response
Refuses BadKind response = Has (fields_for json_kind) (is_fault 400 BadValue (codes "the kind is addr, weight, flag or text")) response
Refuses NoMemory response = ⊥

-- the response has the page for browsers, with its policy
abbrev pub HasPage : Response → Type 0
HasPage response = Has (fields_for (codes "text/html; charset=utf-8") ++ (codes "content-security-policy", POLICY.now) ∷ []) (200, PAGE.now) response

-- the page is there without the backend, and all else comes of one call of it
abbrev pub AnswersOne : {B : Type 0} → (B → Act → B → Type 0) → Operation → B → Response → B → Type 0
AnswersOne step asked old response new =
    ((asked ≡ Page) × HasPage response × (new ≡ old)) ⊎ AnswersAsked step asked old response new

abbrev pub AnswersWhat : {B : Type 0} → (B → Act → B → Type 0) → Result Operation Refusal → B → Response → B → Type 0
AnswersWhat step (Ok asked) old response new = AnswersOne step asked old response new
AnswersWhat step (Err why) old response new = Refuses why response × (new ≡ old)

-- the response to a request that came in at this door
abbrev pub AnswersRequest : {B : Type 0} → (B → Act → B → Type 0) → Door → B → Request (List ℕ) → Response → B → Type 0
AnswersRequest step door old request response new = AnswersWhat step (asked_by door request) old response new
