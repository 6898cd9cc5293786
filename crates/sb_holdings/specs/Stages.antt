-- How a block whose floor is above the held version joins a stage, and how the stage replaces the shown table.
use Rattle.std.specs.Prelude.{ℕ, zero, suc, Bool, ◌&&◌, nat_lt, nat_le, nat_eq, if◌then◌else◌, [], length, Option, Some, None}
use Rattle.sb_types.specs.Records.{Stage, Block, Holder}
use Rattle.sb_types.specs.Runs.{newer_entries, entries_after}
use Rattle.sb_table.specs.Floors.{table_after_swap}
use Rattle.sb_holdings.specs.Blocks.{part_above, leading_part}

-- an empty stage
abbrev pub new_stage : ℕ → Stage
new_stage floor = record { floor = floor; progress = 0; entries = [] }

-- the block has the stage's floor, begins at or below its progress, and reaches above it
abbrev pub goes_on : Stage → Block → Bool
goes_on s b = nat_eq s.floor b.floor && (nat_le b.after s.progress && nat_lt s.progress b.upto)

abbrev pub new_stage_of : Block → Option Stage
new_stage_of b = if nat_eq b.after 0 then Some (new_stage b.floor) else None

-- the stage that a block joins, if any: the one that it continues, else a new one of a higher floor
abbrev pub stage_for : Option Stage → Block → Option Stage
stage_for None b = new_stage_of b
stage_for (Some s) b = if goes_on s b then Some s else (if nat_lt s.floor b.floor then new_stage_of b else None)

abbrev pub stage_with : Stage → Block → Stage
stage_with s b = record { floor = s.floor; progress = b.upto; entries = entries_after s.entries b.entries }

-- the holder after this stage changed: the stage is shown once it has reached its floor
abbrev pub holder_after_stage : Holder → Stage → Holder
holder_after_stage h s = if nat_le s.floor s.progress then record { shown = table_after_swap h.shown s; stage = None } else record { shown = h.shown; stage = Some s }

abbrev pub staged_all : Holder → Block → Option Stage → Holder
staged_all h b None = h
staged_all h b (Some s) = holder_after_stage h (stage_with s (part_above s.progress b))

abbrev pub staged_front : ℕ → Holder → Block → Option Stage → Holder
staged_front zero h b s = h
staged_front (suc n) h b None = h
staged_front (suc n) h b (Some s) = record { shown = h.shown; stage = Some (stage_with s (leading_part (suc n) (part_above s.progress b))) }

-- if all entries had room, there was no memory for the swap, or for the beginning of a stage without entries
abbrev pub staged_refused : ℕ → Holder → Block → Option Stage → Holder
staged_refused n h b None = h
staged_refused n h b (Some s) = if nat_lt n (length (newer_entries s.progress b.entries)) then staged_front n h b (Some s) else record { shown = h.shown; stage = None }
