-- A node with its settings, and what it answers to its own writes.
use Rattle.std.specs.Prelude.{ℕ, nat_eq, length, if◌then◌else◌, Option, Some, None, Result, Err}
use Rattle.std.specs.Cmp.Lexicographic.{pointwise}
use Rattle.sb_types.specs.declared.fault.Fault.{Fault}
use Rattle.sb_types.specs.declared.fault.Fault.TheVariants.{WrongOwner, OwnerConflict}
use Rattle.sb_types.specs.Records.{Settings}
use Rattle.sb_holdings.specs.Held.{shown_of}
use Rattle.sb_holdings.specs.Nodes.{Node}
use Rattle.sb_holdings.specs.Plain.{own_answer}
use Rattle.sb_log.specs.Records.{Committed}

pub record Core : Type 0 where
  pub settings : Settings
  pub node : Node

-- this node, with the settings of the core
abbrev pub with_node : Core → Node → Core
with_node core node = record { settings = core.settings; node = node }

-- how many keys its own table has, those with tombstones (markers of removed keys) included
abbrev pub own_keys : Node → ℕ
own_keys node = length (shown_of node.held node.held.me).entries

-- this answer, unless another node wrote a version under the own name: then the fault with that version
abbrev pub unless_conflict : Option ℕ → Result (Unit {0}) Fault → Result (Unit {0}) Fault
unless_conflict None answer = answer
unless_conflict (Some version) answer = Err (OwnerConflict version)

-- the answer to a committed write, if there is memory
abbrev pub committed_answer : Node → Committed → Result (Unit {0}) Fault
committed_answer node c = if pointwise nat_eq c.owner node.held.me then unless_conflict node.conflict (own_answer node.held c.entry) else Err WrongOwner
