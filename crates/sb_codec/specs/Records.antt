-- Rows and the status of a node, as plain data.
use Rattle.std.specs.Prelude.{ℕ, Bool, List}
use Rattle.sb_types.specs.Value.{Value}
use Rattle.sb_codec.specs.declared.message.node_identity.NodeIdentity.{NodeIdentity}

-- what an owner has under a key: a value, and the version of its write
pub record Row : Type 0 where
  pub owner : List ℕ
  pub key : List ℕ
  pub version : ℕ
  pub value : Value

-- a page of rows, and whether more follow
pub record Rows : Type 0 where
  pub more : Bool
  pub rows : List Row

abbrev pub row_of : List ℕ → List ℕ → ℕ → Value → Row
row_of owner key version value = record { owner = owner; key = key; version = version; value = value }

abbrev pub rows_of : Bool → List Row → Rows
rows_of more rows = record { more = more; rows = rows }

-- what a node tells of itself in a number, by the number of its kind
pub record Figure : Type 0 where
  pub number : ℕ
  pub value : ℕ

-- the path of a peer's socket, the number of its state, and that of its last round, 0 if there was none
pub record Peer : Type 0 where
  pub path : List ℕ
  pub state : ℕ
  pub round : ℕ

-- which node it is, its figures, some of its peers, and whether more of them follow
pub record NodeStatus : Type 0 where
  pub more : Bool
  pub identity : NodeIdentity
  pub figures : List Figure
  pub peers : List Peer

abbrev pub figure_of : ℕ → ℕ → Figure
figure_of number value = record { number = number; value = value }

abbrev pub status_of : Bool → NodeIdentity → List Figure → List Peer → NodeStatus
status_of more identity figures peers = record { more = more; identity = identity; figures = figures; peers = peers }
