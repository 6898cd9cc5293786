-- What a block leaves of one owner, by its end.
use Rattle.std.specs.Prelude.{nat_lt, if◌then◌else◌, Option}
use Rattle.sb_types.specs.Records.{Stage, Block, Holder}
use Rattle.sb_holdings.specs.declared.ends.BlockEnd.{BlockEnd}
use Rattle.sb_holdings.specs.declared.ends.BlockEnd.TheVariants.{Own, OwnAhead, Gap, Stale, OwnersFull, Taken, TooManyKeys, NoMemory}
use Rattle.sb_holdings.specs.Blocks.{part_above, leading_part}
use Rattle.sb_holdings.specs.Shown.{joins_shown, shown_with}
use Rattle.sb_holdings.specs.Stages.{stage_for, staged_all, staged_front, staged_refused}

-- by where the block goes: to the shown table, to the stage, or nowhere
abbrev pub holder_by_route : Holder → Block → Holder → (Option Stage → Holder) → Holder
holder_by_route h b shown staged = if joins_shown h.shown b then shown else (if nat_lt h.shown.held b.floor then staged (stage_for h.stage b) else h)

-- what is held of the block's owner after the block ended this way
abbrev pub holder_after_block : Holder → Block → BlockEnd → Holder
holder_after_block h b Own = h
holder_after_block h b (OwnAhead upto) = h
holder_after_block h b Gap = h
holder_after_block h b Stale = h
holder_after_block h b OwnersFull = h
holder_after_block h b (Taken n) = holder_by_route h b (shown_with h (part_above h.shown.held b)) (staged_all h b)
holder_after_block h b (TooManyKeys n) = holder_by_route h b (shown_with h (leading_part n (part_above h.shown.held b))) (staged_front n h b)
holder_after_block h b (NoMemory n) = holder_by_route h b (shown_with h (leading_part n (part_above h.shown.held b))) (staged_refused n h b)
