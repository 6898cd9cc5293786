-- What happens to what is held of one owner.
use Rattle.std.specs.Prelude.{List, [], ◌∷◌}
use Rattle.sb_types.specs.declared.entry.Write.{Write}
use Rattle.sb_types.specs.Records.{Entry, Block, Holder}
use Rattle.sb_types.specs.Runs.{Stands, IsBlock}
use Rattle.sb_types.specs.Writes.{Written, Honest}
use Rattle.sb_holdings.specs.declared.ends.BlockEnd.{BlockEnd}
use Rattle.sb_holdings.specs.Shown.{holder_after_write}
use Rattle.sb_holdings.specs.Taken.{holder_after_block}

-- the owner wrote, or a block came and ended this way
pub data Event : Type 0 where
  Owned : Entry → Event
  Came : Block → BlockEnd → Event

abbrev pub holder_after_event : Holder → Event → Holder
holder_after_event h (Owned e) = holder_after_write h e
holder_after_event h (Came b end) = holder_after_block h b end

abbrev pub replay_holder : Holder → List Event → Holder
replay_holder h [] = h
replay_holder h (event ∷ events) = replay_holder (holder_after_event h event) events

abbrev pub IsEvent : Event → Type 0
IsEvent (Owned e) = Unit {0}
IsEvent (Came b end) = IsBlock b

-- a committed write, or an honest block
abbrev pub TrueEvent : List Write → Event → Type 0
TrueEvent writes (Owned e) = Written writes e
TrueEvent writes (Came b end) = Honest writes b

abbrev pub AreEvents : List Event → Type 0
AreEvents events = (event : Event) → Stands events event → IsEvent event

abbrev pub AllTrue : List Write → List Event → Type 0
AllTrue writes events = (event : Event) → Stands events event → TrueEvent writes event
