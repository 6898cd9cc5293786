-- Which end a block has: the first that fits.
use Rattle.std.specs.Prelude.{◌≡◌, ℕ, ◌+◌, ◌≤◌, ◌<◌, max, Bool, true, false, ◌&&◌, ◌||◌, nat_lt, nat_le, nat_eq, if◌then◌else◌, List, [], ◌⊎◌, length, take, Option, Some, None}
use Rattle.std.specs.Cmp.Lexicographic.{pointwise}
use Rattle.std.specs.FinMap.{contains_key, len}
use Rattle.sb_types.specs.declared.limits.TheConstants.{OWNERS_MOST, KEYS_MOST}
use Rattle.sb_types.specs.Records.{Entry, Table, Stage, Block, Holder}
use Rattle.sb_types.specs.Runs.{newer_entries, entries_after, live_entries}
use Rattle.sb_holdings.specs.declared.ends.BlockEnd.{BlockEnd}
use Rattle.sb_holdings.specs.declared.ends.BlockEnd.TheVariants.{Own, OwnAhead, Gap, Stale, OwnersFull, Taken, TooManyKeys, NoMemory}
use Rattle.sb_holdings.specs.Shown.{joins_shown}
use Rattle.sb_holdings.specs.Stages.{stage_for}
use Rattle.sb_holdings.specs.Held.{Held, holder_of, shown_of}

-- the block has the node's own name
abbrev pub is_own : Held → Block → Bool
is_own held b = pointwise nat_eq b.owner held.me

-- the held version has reached the block's upto and its floor
abbrev pub is_stale : Table → Block → Bool
is_stale t b = nat_le b.upto t.held && nat_le b.floor t.held

-- the stage that the block joins, if any; only a block whose floor is above the held version joins a stage
abbrev pub joined_stage : Holder → Block → Option Stage
joined_stage h b = if nat_lt h.shown.held b.floor then stage_for h.stage b else None

-- of another owner, with its floor and its beginning at or below the held version, and reaching above it
pub record JoinsOn (held : Held) (b : Block) : Type 0 where
  pub other : is_own held b ≡ false
  pub floor : b.floor ≤ (shown_of held b.owner).held
  pub after : b.after ≤ (shown_of held b.owner).held
  pub more : (shown_of held b.owner).held < b.upto

-- of another owner, and continuing this stage, or beginning it while it is empty
pub record JoinsStage (held : Held) (b : Block) (s : Stage) : Type 0 where
  pub other : is_own held b ≡ false
  pub stage : joined_stage (holder_of held.owners b.owner) b ≡ Some s

-- the owner is held, or there is room for one more
abbrev pub has_place : Held → List ℕ → Bool
has_place held owner = contains_key held.owners owner || nat_lt (len held.owners) OWNERS_MOST

-- how many keys there are after the first of these entries were entered
abbrev pub keys_with : ℕ → List Entry → List Entry → ℕ
keys_with count new entries = length (entries_after entries (take count new))

-- how entering new entries in turn ends: with all of them, before the one that would be a key too many, or before any
-- other
abbrev pub Enters : List Entry → List Entry → BlockEnd → Type 0
Enters entries new Own = ⊥
Enters entries new (OwnAhead upto) = ⊥
Enters entries new Gap = ⊥
Enters entries new Stale = ⊥
Enters entries new OwnersFull = ⊥
Enters entries new (Taken n) = (n ≡ length new) × (keys_with n new entries ≤ KEYS_MOST)
Enters entries new (TooManyKeys n) = (n < length new) × (keys_with n new entries ≤ KEYS_MOST) × (KEYS_MOST < keys_with (n + 1) new entries)
Enters entries new (NoMemory n) = (n < length new) × (keys_with (n + 1) new entries ≤ KEYS_MOST)

-- how many entries were entered
abbrev pub entered_count : BlockEnd → ℕ
entered_count Own = 0
entered_count (OwnAhead upto) = 0
entered_count Gap = 0
entered_count Stale = 0
entered_count OwnersFull = 0
entered_count (Taken n) = n
entered_count (TooManyKeys n) = n
entered_count (NoMemory n) = n

-- entering ended this way; or all was entered, and then there was no memory for what follows
abbrev pub EntersOr : List Entry → List Entry → Type 0 → BlockEnd → Type 0
EntersOr entries new behind end = Enters entries new end ⊎ ((end ≡ NoMemory (length new)) × Enters entries new (Taken (length new)) × behind)

-- the block joins on, its owner has a place, and its entries above the held version are entered this way. After the
-- last entry, there may be no memory for a new owner
pub record IsTaken (held : Held) (b : Block) (end : BlockEnd) : Type 0 where
  pub joins : JoinsOn held b
  pub place : has_place held b.owner ≡ true
  pub enters : let t = shown_of held b.owner in
      EntersOr (live_entries (max t.floor b.floor) t.entries) (newer_entries t.held b.entries) ((b.entries ≡ []) × (contains_key held.owners b.owner ≡ false)) end

-- the block joins a stage, its owner has a place, and its entries above the stage's progress are entered this way.
-- After the last entry, there may be no memory for the swap, or for the beginning of a stage without entries
pub record IsStaged (held : Held) (b : Block) (end : BlockEnd) : Type 0 where
  pub stage : Stage
  pub joins : JoinsStage held b stage
  pub place : has_place held b.owner ≡ true
  pub enters : EntersOr stage.entries (newer_entries stage.progress b.entries) ((stage.floor ≤ b.upto) ⊎ ((stage.progress ≡ 0) × (b.entries ≡ []))) end

-- the end is the first that fits
abbrev pub Fits : Held → Block → BlockEnd → Type 0
Fits held b Own = (is_own held b ≡ true) × (b.upto ≤ (shown_of held b.owner).held)
Fits held b (OwnAhead upto) = (is_own held b ≡ true) × ((shown_of held b.owner).held < b.upto) × (upto ≡ b.upto)
Fits held b Gap = (is_own held b ≡ false) × (is_stale (shown_of held b.owner) b ≡ false) × (joins_shown (shown_of held b.owner) b ≡ false) × (joined_stage (holder_of held.owners b.owner) b ≡ None)
Fits held b Stale = (is_own held b ≡ false) × (is_stale (shown_of held b.owner) b ≡ true)
Fits held b OwnersFull = (JoinsOn held b ⊎ ((s : Stage) × JoinsStage held b s)) × (has_place held b.owner ≡ false)
Fits held b (Taken n) = IsTaken held b (Taken n) ⊎ IsStaged held b (Taken n)
Fits held b (TooManyKeys n) = IsTaken held b (TooManyKeys n) ⊎ IsStaged held b (TooManyKeys n)
Fits held b (NoMemory n) = IsTaken held b (NoMemory n) ⊎ IsStaged held b (NoMemory n)
