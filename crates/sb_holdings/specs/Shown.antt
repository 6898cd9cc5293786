-- How a block joins the shown table of its owner.
use Rattle.std.specs.Prelude.{ℕ, ◌+◌, max, Bool, ◌&&◌, nat_lt, nat_le, nat_eq, if◌then◌else◌, Option, Some, None}
use Rattle.sb_types.specs.Records.{Entry, Table, Stage, Block, Holder}
use Rattle.sb_types.specs.Runs.{entries_after, live_entries}
use Rattle.sb_table.specs.Plain.{with_entry}
use Rattle.sb_table.specs.Floors.{table_at_floor}

-- the block's floor and its beginning are at or below the held version, and the block reaches above it
abbrev pub joins_shown : Table → Block → Bool
joins_shown t b = nat_le b.floor t.held && (nat_le b.after t.held && nat_lt t.held b.upto)

-- the floor rises to the block's, the tombstones (markers of removed keys) up to it go, and the block's entries are
-- entered
abbrev pub table_after_block : Table → Block → Table
table_after_block t b = record { held = b.upto; floor = max t.floor b.floor; entries = entries_after (live_entries (max t.floor b.floor) t.entries) b.entries }

-- a stage is dropped once the shown table has reached its floor
abbrev pub stage_beyond : ℕ → Option Stage → Option Stage
stage_beyond held None = None
stage_beyond held (Some s) = if nat_lt held s.floor then Some s else None

abbrev pub shown_with : Holder → Block → Holder
shown_with h b = record { shown = table_after_block h.shown b; stage = stage_beyond b.upto h.stage }

-- the owner's own write, if it is the next one; another write changes nothing
abbrev pub holder_after_write : Holder → Entry → Holder
holder_after_write h e = if nat_eq e.version (h.shown.held + 1) then record { shown = with_entry h.shown e; stage = stage_beyond e.version h.stage } else h

-- the own table once its tombstones up to the floor are gone; a floor that is not above the present one, or is above the
-- held version, changes nothing
abbrev pub own_purged : ℕ → Holder → Holder
own_purged floor h = if nat_lt h.shown.floor floor && nat_le floor h.shown.held then record { shown = table_at_floor h.shown.held floor h.shown; stage = h.stage } else h
