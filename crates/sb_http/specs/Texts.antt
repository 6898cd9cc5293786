-- The bodies of responses.
use Rattle.std.specs.Prelude.{ℕ, Bool, ◌==◌, List, [], ◌∷◌, ◌++◌, map, codes, Option, Some, None, unwrap_or}
use Rattle.serde_json.specs.Data.{Data, boolean, number, unsigned, string, array, object, Members, member, no_members}
use Rattle.serde_json.specs.Written.{compact_text}
use Rattle.sb_codec.specs.Records.{Row, Rows, Figure, NodeStatus}
use Rattle.sb_codec.specs.Figures.{number_of, value_at}
use Rattle.sb_codec.specs.declared.message.figure.FigureKind.{FigureKind}
use Rattle.sb_codec.specs.declared.message.figure.FigureKind.TheVariants.{CaughtUp, LogFault, Conflict}
use Rattle.sb_query.specs.Statuses.{is_ready}
use Rattle.sb_listing.specs.Json.{items_of, rows_data}
use Rattle.sb_http.specs.declared.backend.HeldOwner.{HeldOwner}

-- the text of JSON without spaces, and the end of the line
abbrev pub line_of : Data → List ℕ
line_of json = compact_text json ++ 10 ∷ []

-- whether more rows follow, and the rows
unfoldable pub page_data : Rows → Data
page_data page = object (member (codes "more") (boolean page.more) (member (codes "rows") (rows_data page.rows) no_members))

-- the same, with the mark of all rows that are asked for
unfoldable pub marked_page_data : List ℕ → Rows → Data
marked_page_data mark page =
    object (member (codes "more") (boolean page.more) (member (codes "rows") (rows_data page.rows) (member (codes "seen") (string mark) no_members)))

-- the members with the age before them, if it is known
abbrev pub aged : Option ℕ → Members → Members
aged (Some age) members = member (codes "age") (number (unsigned age)) members
aged None members = members

-- the members are in the order of their names
unfoldable pub owner_data : HeldOwner → Data
owner_data held =
    object (aged held.age (member (codes "owner") (string held.owner) (member (codes "rows") (number (unsigned held.rows))
    (member (codes "version") (number (unsigned held.version)) no_members))))

unfoldable pub owners_data : List HeldOwner → Data
owners_data owners = object (member (codes "owners") (array (items_of (map owner_data owners))) no_members)

abbrev pub figure_of : FigureKind → List Figure → ℕ
figure_of kind figures = unwrap_or (value_at (number_of kind) figures) 0

unfoldable pub health_object : Bool → ℕ → ℕ → Bool → Data
health_object caught_up conflict log_fault ready =
    object (member (codes "caught_up") (boolean caught_up) (member (codes "conflict") (number (unsigned conflict))
    (member (codes "log_fault") (number (unsigned log_fault)) (member (codes "ready") (boolean ready) no_members))))

-- whether the node is ready, and the three figures that say why it is not
abbrev pub health_data : List Figure → Data
health_data figures =
    health_object (figure_of CaughtUp figures == 1) (figure_of Conflict figures) (figure_of LogFault figures) (is_ready figures)

-- the version under which the log took a write
unfoldable pub version_data : ℕ → Data
version_data version = object (member (codes "version") (number (unsigned version)) no_members)

-- a text about what went wrong
unfoldable pub error_data : List ℕ → Data
error_data text = object (member (codes "error") (string text) no_members)

-- the text of a fault, and its number
unfoldable pub fault_data : List ℕ → ℕ → Data
fault_data text n = object (member (codes "error") (string text) (member (codes "fault") (number (unsigned n)) no_members))
