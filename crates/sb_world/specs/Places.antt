-- A world as plain data: its nodes, its connections, and the frames that were sent.
use Rattle.std.specs.Prelude.{◌≡◌, ℕ, zero, suc, Bool, true, if◌then◌else◌, nat_eq, List, [], ◌∷◌, Option, Some, None, IfSome, slice_get}
use Rattle.std.specs.Cmp.Lexicographic.{pointwise}
use Rattle.sb_types.specs.Records.{Settings}
use Rattle.sb_log.specs.Records.{Committed, Log}
use Rattle.sb_log.specs.Puts.{IsSure}
use Rattle.sb_node.specs.Cores.{Core}
use Rattle.sb_world.specs.Connections.{Connection}

-- a node of a world: its name, its log, what it holds, its own writes that wait to be entered, oldest first, and whether it is up
pub record Place : Type 0 where
  pub me : List ℕ
  pub log : Log
  pub core : Core
  pub waiting : List Committed
  pub is_up : Bool

-- the nodes, the connections, and all frames that were ever sent, in their order
pub record Seen : Type 0 where
  pub settings : Settings
  pub places : List Place
  pub connections : List Connection
  pub sent : List (List ℕ)

-- the node of a name
abbrev pub place_at : List Place → List ℕ → Option Place
place_at [] name = None
place_at (p ∷ ps) name = if pointwise nat_eq p.me name then Some p else place_at ps name

-- with another in place of the node of a name
abbrev pub with_place : List Place → List ℕ → Place → List Place
with_place [] name q = []
with_place (p ∷ ps) name q = if pointwise nat_eq p.me name then q ∷ ps else p ∷ with_place ps name q

-- the frame of a number, counted from 1
abbrev pub frame_at : List (List ℕ) → ℕ → Option (List ℕ)
frame_at sent zero = None
frame_at sent (suc n) = slice_get sent n

-- the store of each log has kept its promise so far
abbrev pub IsClean : List Place → Type 0
IsClean places = (name : List ℕ) → IfSome (place_at places name) (λ p. p.log.is_clean ≡ true)

-- the store of each log keeps its promise for ever, since nothing can make it break that
abbrev pub AreSure : List Place → Type 0
AreSure places = (name : List ℕ) → IfSome (place_at places name) (λ p. IsSure p.log)
