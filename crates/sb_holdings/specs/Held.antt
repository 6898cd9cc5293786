-- What a node holds of all owners, and how it changes.
use Rattle.std.specs.Prelude.{ℕ, Bool, ◌&&◌, nat_eq, if◌then◌else◌, List, [], length, None, is_none, unwrap_or}
use Rattle.std.specs.Ordering.{nat_cmp}
use Rattle.std.specs.Cmp.Lexicographic.{slice_cmp, pointwise}
use Rattle.std.specs.FinMap.{FinMap, get, insert, remove}
use Rattle.sb_types.specs.Records.{Entry, Table, Block, Holder}
use Rattle.sb_holdings.specs.declared.ends.BlockEnd.{BlockEnd}
use Rattle.sb_holdings.specs.declared.ends.BlockEnd.TheVariants.{Own, OwnAhead, Gap, Stale, OwnersFull, Taken, TooManyKeys, NoMemory}
use Rattle.sb_holdings.specs.Shown.{holder_after_write, own_purged}
use Rattle.sb_holdings.specs.Taken.{holder_after_block}

-- the node's own name, and what it holds of each owner
pub record Held : Type 0 where
  pub me : List ℕ
  pub owners : FinMap (slice_cmp nat_cmp) Holder

-- what is held of an unknown owner
abbrev pub empty_holder : Holder
empty_holder = record { shown = record { held = 0; floor = 0; entries = [] }; stage = None }

abbrev pub is_nothing : Holder → Bool
is_nothing h = nat_eq h.shown.held 0 && (nat_eq h.shown.floor 0 && (nat_eq (length h.shown.entries) 0 && is_none h.stage))

abbrev pub holder_of : FinMap (slice_cmp nat_cmp) Holder → List ℕ → Holder
holder_of owners owner = unwrap_or (get owners owner) empty_holder

abbrev pub shown_of : Held → List ℕ → Table
shown_of held owner = (holder_of held.owners owner).shown

-- if nothing is held of an owner, the map does not contain it
abbrev pub with_holder : FinMap (slice_cmp nat_cmp) Holder → List ℕ → Holder → FinMap (slice_cmp nat_cmp) Holder
with_holder owners owner h = if is_nothing h then remove owners owner else insert owners owner h

abbrev pub with_owner : Held → List ℕ → Holder → Held
with_owner held owner h = record { me = held.me; owners = with_holder held.owners owner h }

-- after the node's own write; the map always has the own name
abbrev pub held_after_write : Held → Entry → Held
held_after_write held e = record { me = held.me; owners = insert held.owners held.me (holder_after_write (holder_of held.owners held.me) e) }

-- after the node's own table was purged up to this floor
abbrev pub purged_own : Held → ℕ → Held
purged_own held floor = record { me = held.me; owners = insert held.owners held.me (own_purged floor (holder_of held.owners held.me)) }

-- no block of the node's own name is taken
abbrev pub held_after_taking : Held → Block → BlockEnd → Held
held_after_taking held b end = if pointwise nat_eq b.owner held.me then held else with_owner held b.owner (holder_after_block (holder_of held.owners b.owner) b end)

-- after a block that ended this way
abbrev pub held_after_block : Held → Block → BlockEnd → Held
held_after_block held b Own = held
held_after_block held b (OwnAhead upto) = held
held_after_block held b Gap = held
held_after_block held b Stale = held
held_after_block held b OwnersFull = held
held_after_block held b (Taken n) = held_after_taking held b (Taken n)
held_after_block held b (TooManyKeys n) = held_after_taking held b (TooManyKeys n)
held_after_block held b (NoMemory n) = held_after_taking held b (NoMemory n)
