-- Items collected by owner, each owner's as the block that they will make.
use Rattle.std.specs.Prelude.{◌≡◌, ℕ, ◌+◌, true, nat_eq, if◌then◌else◌, List, [], ◌++◌, length, slice_index_or, slice_set, insert, Option, Result, Ok, Err}
use Rattle.std.specs.List.{cons_option}
use Rattle.std.specs.Option.{option_map_or}
use Rattle.std.specs.Cmp.Lexicographic.{pointwise}
use Rattle.sb_types.specs.Records.{Entry, Block}
use Rattle.sb_types.specs.Runs.{last_version}
use Rattle.sb_types.specs.Lengths.{entry_length}
use Rattle.sb_types.specs.Limits.{are_block_parts}
use Rattle.sb_budget.specs.declared.head.Head.{Head}
use Rattle.sb_budget.specs.Offers.{Item}

-- the item with this head
abbrev pub item_at : Head → Option Entry → Item
item_at h entry = record { owner = h.owner; floor = h.floor; after = h.after; upto = h.upto; entry = entry }

-- the block with this head
abbrev pub block_at : Head → List Entry → Block
block_at h entries = record { owner = h.owner; floor = h.floor; after = h.after; upto = h.upto; entries = entries }

-- the block with an item's entry added, if the item has one
abbrev pub block_with_entry : Block → Option Entry → Block
block_with_entry b entry = record { owner = b.owner; floor = b.floor; after = b.after; upto = b.upto; entries = b.entries ++ cons_option entry [] }

-- the block of the owner's first item
abbrev pub block_of_item : Item → Block
block_of_item item = record { owner = item.owner; floor = item.floor; after = item.after; upto = item.upto; entries = cons_option item.entry [] }

-- the item added to its owner's block if that is there, or in a new block at the place of the owner
abbrev pub blocks_with_item : Result ℕ ℕ → Item → List Block → List Block
blocks_with_item (Ok i) item blocks = slice_set blocks i (block_with_entry (slice_index_or blocks i (block_of_item item)) item.entry)
blocks_with_item (Err i) item blocks = insert blocks i (block_of_item item)

-- how many bytes the item takes, by whether its owner's block is there
abbrev pub cost_of : Item → Result ℕ ℕ → ℕ
cost_of item (Ok i) = option_map_or (λ e. entry_length e) item.entry 0
cost_of item (Err i) = 27 + length item.owner + option_map_or (λ e. entry_length e) item.entry 0

-- the block up to its last entry, as it is if items of its owner are left out
abbrev pub block_to_last_entry : Block → Block
block_to_last_entry b = record { owner = b.owner; floor = b.floor; after = b.after; upto = last_version b.after b.entries; entries = b.entries }

-- the same if the block is this owner's
abbrev pub lowered_of : List ℕ → Block → Block
lowered_of owner b = if pointwise nat_eq b.owner owner then block_to_last_entry b else b

-- its entries are such as a block of its bounds can have
abbrev pub HasParts : Block → Type 0
HasParts b = are_block_parts b.after b.upto b.entries ≡ true
