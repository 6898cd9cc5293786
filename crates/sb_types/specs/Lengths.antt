-- How many bytes a message takes in its one spelling.
use Rattle.std.specs.Prelude.{ℕ, ◌+◌, List, length, sum_by}
use Rattle.sb_types.specs.declared.entry.Slot.{Slot}
use Rattle.sb_types.specs.declared.entry.Slot.TheVariants.{Set, Removed}
use Rattle.sb_types.specs.Value.{Value, Addr, Weight, Flag, Text}
use Rattle.sb_types.specs.Records.{Entry, Block}

-- an address has a length byte before its text, and a text has two
abbrev pub value_length : Value → ℕ
value_length (Addr text) = 1 + length text
value_length (Weight weight) = 8
value_length (Flag flag) = 1
value_length (Text text) = 2 + length text

abbrev pub slot_length : Slot → ℕ
slot_length (Set value) = value_length value
slot_length Removed = 0

-- the key's length byte and text, the version, the tag, and what the slot takes
abbrev pub entry_length : Entry → ℕ
entry_length e = 10 + length e.key + slot_length e.slot

abbrev pub entries_length : List Entry → ℕ
entries_length entries = sum_by entry_length entries

-- the owner's length byte and text, the purge floor, the versions after and upto, the number of entries, and the
-- entries
abbrev pub block_length : Block → ℕ
block_length b = 27 + length b.owner + entries_length b.entries

-- the kind, the number of blocks, and the blocks
abbrev pub delta_length : List Block → ℕ
delta_length blocks = 3 + sum_by block_length blocks
