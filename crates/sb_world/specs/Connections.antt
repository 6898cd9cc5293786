-- Connections: each is a session at one node, with a queue of bytes on their way to it.
use Rattle.std.specs.Prelude.{ℕ, not, nat_eq, if◌then◌else◌, filter, List, [], ◌∷◌, Option, Some, None}
use Rattle.std.specs.Cmp.Lexicographic.{pointwise}
use Rattle.sb_frames.specs.Streams.{Stream}
use Rattle.sb_session.specs.Sessions.{Session}

-- its number, its node, its session, what came and was not taken out yet, and the queue of what is still to come
pub record Connection : Type 0 where
  pub number : ℕ
  pub me : List ℕ
  pub session : Session
  pub stream : Stream
  pub left : List ℕ

-- the connection of a number
abbrev pub connection_at : List Connection → ℕ → Option Connection
connection_at [] number = None
connection_at (c ∷ cs) number = if nat_eq c.number number then Some c else connection_at cs number

-- with another in place of the connection of a number
abbrev pub with_connection : List Connection → ℕ → Connection → List Connection
with_connection [] number d = []
with_connection (c ∷ cs) number d = if nat_eq c.number number then d ∷ cs else c ∷ with_connection cs number d

abbrev pub without_connection : List Connection → ℕ → List Connection
without_connection [] number = []
without_connection (c ∷ cs) number = if nat_eq c.number number then cs else c ∷ without_connection cs number

-- those of other nodes
abbrev pub of_others : List ℕ → List Connection → List Connection
of_others me cs = filter (λ c. not (pointwise nat_eq c.me me)) cs
