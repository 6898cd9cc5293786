-- Which end a block has at one owner, and what it leaves there.
use Rattle.std.specs.Prelude.{◌≡◌, ℕ, ◌≤◌, ◌<◌, max, Bool, true, false, ◌&&◌, nat_lt, nat_le, if◌then◌else◌, List, [], ◌⊎◌, take, Option, Some, None}
use Rattle.std.specs.Ordering.{nat_cmp}
use Rattle.std.specs.Cmp.Lexicographic.{slice_cmp}
use Rattle.std.specs.Map.{lookup}
use Rattle.std.specs.BTreeMap.{is_at}
use Rattle.sb_types.specs.Records.{Entry, Table, Stage, Block, Holder}
use Rattle.sb_types.specs.Runs.{IsRun, newer_entries, are_ascending, entries_after, last_version, live_entries}
use Rattle.sb_table.specs.Floors.{table_at_floor, table_after_swap}
use Rattle.sb_holdings.specs.declared.ends.BlockEnd.{BlockEnd}
use Rattle.sb_holdings.specs.declared.ends.BlockEnd.TheVariants.{Own, OwnAhead, Gap, Stale, OwnersFull, Taken, TooManyKeys, NoMemory}
use Rattle.sb_holdings.specs.Shown.{joins_shown, stage_beyond}
use Rattle.sb_holdings.specs.Stages.{goes_on, staged_all, staged_front, staged_refused}
use Rattle.sb_holdings.specs.Held.{empty_holder}
use Rattle.sb_holdings.specs.Ends.{Enters, entered_count, EntersOr, is_stale, joined_stage}

-- ---- blocks in parts

abbrev pub owner_block : List ℕ → ℕ → ℕ → ℕ → List Entry → Block
owner_block owner floor after upto entries = record { owner = owner; floor = floor; after = after; upto = upto; entries = entries }

-- a block without its owner's name
abbrev pub unnamed_block : ℕ → ℕ → ℕ → List Entry → Block
unnamed_block floor after upto entries = record { owner = []; floor = floor; after = after; upto = upto; entries = entries }

-- ---- which end a block has

pub record IsShownTaken (h : Holder) (b : Block) (end : BlockEnd) : Type 0 where
  pub joins : joins_shown h.shown b ≡ true
  pub enters : Enters (live_entries (max h.shown.floor b.floor) h.shown.entries) (newer_entries h.shown.held b.entries) end

-- after the last entry, there may be no memory for the swap
pub record IsStageTaken (h : Holder) (b : Block) (end : BlockEnd) : Type 0 where
  pub stage : Stage
  pub joins : joined_stage h b ≡ Some stage
  pub enters : EntersOr stage.entries (newer_entries stage.progress b.entries) (stage.floor ≤ b.upto) end

abbrev pub FitsHolder : Holder → Block → BlockEnd → Type 0
FitsHolder h b Own = ⊥
FitsHolder h b (OwnAhead upto) = ⊥
FitsHolder h b Gap = (is_stale h.shown b ≡ false) × (joins_shown h.shown b ≡ false) × (joined_stage h b ≡ None)
FitsHolder h b Stale = is_stale h.shown b ≡ true
FitsHolder h b OwnersFull = ⊥
FitsHolder h b (Taken n) = IsShownTaken h b (Taken n) ⊎ IsStageTaken h b (Taken n)
FitsHolder h b (TooManyKeys n) = IsShownTaken h b (TooManyKeys n) ⊎ IsStageTaken h b (TooManyKeys n)
FitsHolder h b (NoMemory n) = IsShownTaken h b (NoMemory n) ⊎ IsStageTaken h b (NoMemory n)

-- ---- what entering new entries leaves

-- how far it came: up to upto if all were entered, else up to the last entered one
abbrev pub upto_after : ℕ → ℕ → List Entry → BlockEnd → ℕ
upto_after before upto new Own = before
upto_after before upto new (OwnAhead ahead) = before
upto_after before upto new Gap = before
upto_after before upto new Stale = before
upto_after before upto new OwnersFull = before
upto_after before upto new (Taken n) = upto
upto_after before upto new (TooManyKeys n) = last_version before (take n new)
upto_after before upto new (NoMemory n) = last_version before (take n new)

abbrev pub table_after_end : Table → ℕ → List Entry → BlockEnd → Table
table_after_end t upto new end = record { held = upto_after t.held upto new end; floor = t.floor; entries = entries_after t.entries (take (entered_count end) new) }

abbrev pub stage_after_end : Stage → ℕ → List Entry → BlockEnd → Stage
stage_after_end s upto new end = record { floor = s.floor; progress = upto_after s.progress upto new end; entries = entries_after s.entries (take (entered_count end) new) }

-- the stage with others entered, each in place of its key's old entry
abbrev pub stage_with_entries : Stage → List Entry → Stage
stage_with_entries s others = record { floor = s.floor; progress = last_version s.progress others; entries = entries_after s.entries others }

-- the shown table with its floor raised and new entries entered, without the stage if the table has reached its floor
abbrev pub shown_taken : Holder → ℕ → ℕ → List Entry → BlockEnd → Holder
shown_taken h floor upto new end =
    let t = table_after_end (table_at_floor h.shown.held (max h.shown.floor floor) h.shown) upto new end in
    record { shown = t; stage = stage_beyond t.held h.stage }

-- all was entered, and the stage has reached its floor
abbrev pub is_due : Stage → BlockEnd → Bool
is_due s Own = false
is_due s (OwnAhead ahead) = false
is_due s Gap = false
is_due s Stale = false
is_due s OwnersFull = false
is_due s (Taken n) = nat_le s.floor s.progress
is_due s (TooManyKeys n) = false
is_due s (NoMemory n) = false

-- a stage that is due is shown, unless there is no memory for the swap; it is gone either way
abbrev pub shown_stage : Table → Stage → BlockEnd → Holder
shown_stage t s Own = record { shown = t; stage = None }
shown_stage t s (OwnAhead ahead) = record { shown = t; stage = None }
shown_stage t s Gap = record { shown = t; stage = None }
shown_stage t s Stale = record { shown = t; stage = None }
shown_stage t s OwnersFull = record { shown = t; stage = None }
shown_stage t s (Taken n) = record { shown = table_after_swap t s; stage = None }
shown_stage t s (TooManyKeys n) = record { shown = t; stage = None }
shown_stage t s (NoMemory n) = record { shown = t; stage = None }

-- the stage beside the table, or in its place if it is due
abbrev pub with_stage : Table → Stage → Bool → BlockEnd → Holder
with_stage t s due end = if due then shown_stage t s end else record { shown = t; stage = Some s }

-- it ends as entering did, or there was no memory for the swap
abbrev pub Settles : Stage → BlockEnd → BlockEnd → Type 0
Settles s entering end = (end ≡ entering) ⊎ ((is_due s entering ≡ true) × (end ≡ NoMemory (entered_count entering)))

-- what a block leaves that goes to this stage
abbrev pub staged_by : Holder → Block → Option Stage → BlockEnd → Holder
staged_by h b s Own = h
staged_by h b s (OwnAhead ahead) = h
staged_by h b s Gap = h
staged_by h b s Stale = h
staged_by h b s OwnersFull = h
staged_by h b s (Taken n) = staged_all h b s
staged_by h b s (TooManyKeys n) = staged_front n h b s
staged_by h b s (NoMemory n) = staged_refused n h b s

-- the block continues the stage that is there
abbrev pub goes_on_with : Option Stage → Block → Bool
goes_on_with None b = false
goes_on_with (Some s) b = goes_on s b

-- a new stage of this floor may begin: there is none yet, or one of a lower floor
abbrev pub may_begin : Option Stage → ℕ → Bool
may_begin None floor = true
may_begin (Some s) floor = nat_lt s.floor floor

-- the entries that the stage lacks are a run up to this version
abbrev pub GoesOn : Stage → ℕ → List Entry → Type 0
GoesOn s upto entries = (are_ascending 0 entries ≡ true) × IsRun s.progress upto (newer_entries s.progress entries) × (s.progress < upto)

-- how a stage takes these entries
abbrev pub FillsStage : Stage → ℕ → List Entry → BlockEnd → Type 0
FillsStage s upto entries end = EntersOr s.entries (newer_entries s.progress entries) (s.floor ≤ upto) end

-- how a block whose floor is above the held version ends, given the stage that it joins, if any
abbrev pub FitsStage : Option Stage → Block → BlockEnd → Type 0
FitsStage None b end = end ≡ Gap
FitsStage (Some s) b end = FillsStage s b.upto b.entries end

-- ---- among the owners

-- how a block of the own name ends
abbrev pub own_end : ℕ → ℕ → BlockEnd
own_end held upto = if nat_le upto held then Own else OwnAhead upto

-- what a name has in the new list: nothing if it is the owner and the owner is gone, else what it had
abbrev pub Dropped : List ℕ → Bool → List (List ℕ × Holder) → List (List ℕ × Holder) → Type 0
Dropped owner gone old new = (q : List ℕ) →
    lookup (is_at (slice_cmp nat_cmp q)) new ≡ (if gone && is_at (slice_cmp nat_cmp owner) q then None else lookup (is_at (slice_cmp nat_cmp q)) old)

-- how a block that begins after 0 ends if its owner is not held: as at an empty holder, or without memory for the owner
abbrev pub FitsNew : Block → BlockEnd → Type 0
FitsNew b end = FitsHolder empty_holder b end ⊎ (end ≡ NoMemory 0)
