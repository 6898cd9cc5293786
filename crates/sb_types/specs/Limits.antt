-- Which parts make an entry, a block, a delta or settings.
use Rattle.std.specs.Prelude.{ℕ, ◌-◌, ◌^◌, Bool, true, false, ◌&&◌, nat_lt, nat_le, List, [], ◌∷◌, length}
use Rattle.std.specs.List.{list_all}
use Rattle.std.specs.Ordering.{nat_cmp, is_lt}
use Rattle.std.specs.Cmp.Lexicographic.{slice_cmp}
use Rattle.sb_types.specs.declared.entry.Slot.{Slot}
use Rattle.sb_types.specs.declared.entry.Slot.TheVariants.{Set, Removed}
use Rattle.sb_types.specs.declared.limits.TheConstants.{ENTRIES_MOST, PAYLOAD_MOST, BUDGET_LEAST, BUDGET_MOST, VERSION_MOST, SEATS_MOST, WORKERS_MOST}
use Rattle.sb_types.specs.Text.{is_between, is_name, is_key}
use Rattle.sb_types.specs.Value.{is_value, holds_text}
use Rattle.sb_types.specs.Records.{Entry, Block, Settings}
use Rattle.sb_types.specs.Runs.{are_ascending, are_distinct, last_version}
use Rattle.sb_types.specs.Lengths.{delta_length}

abbrev pub is_slot : Slot → Bool
is_slot (Set value) = is_value value
is_slot Removed = true

abbrev pub slot_holds_text : Slot → Bool
slot_holds_text (Set value) = holds_text value
slot_holds_text Removed = false

abbrev pub is_entry : Entry → Bool
is_entry e = is_key e.key && is_between 1 (2 ^ 64 - 1) e.version && is_slot e.slot

-- at most 65,535 entries, ascending above after, at most upto, each key once; upto is above after
abbrev pub are_block_parts : ℕ → ℕ → List Entry → Bool
are_block_parts after upto entries = nat_le (length entries) ENTRIES_MOST && nat_lt after upto && are_ascending after entries && nat_le (last_version after entries) upto && are_distinct entries

-- the block of these parts
abbrev pub block_of_parts : List ℕ → ℕ → ℕ → ℕ → List Entry → Block
block_of_parts owner floor after upto entries = record { owner = owner; floor = floor; after = after; upto = upto; entries = entries }

-- a block that a delta may carry
abbrev pub is_delta_block : Block → Bool
is_delta_block b = is_name b.owner && nat_lt b.floor (2 ^ 64) && nat_lt b.upto (2 ^ 64) && list_all is_entry b.entries && are_block_parts b.after b.upto b.entries

-- the text is before the other, in the order of their bytes
abbrev pub text_lt : List ℕ → List ℕ → Bool
text_lt a b = is_lt (slice_cmp nat_cmp a b)

-- each owner's name is after the one before it, and the first is after last
abbrev pub are_owners_above : List ℕ → List Block → Bool
are_owners_above last [] = true
are_owners_above last (b ∷ bs) = text_lt last b.owner && are_owners_above b.owner bs

-- owners ascend, and the payload is within its limit (no name is empty, so each is after the empty text)
abbrev pub are_delta_blocks : List Block → Bool
are_delta_blocks blocks = are_owners_above [] blocks && nat_le (delta_length blocks) PAYLOAD_MOST

abbrev pub is_delta : List Block → Bool
is_delta blocks = list_all is_delta_block blocks && are_delta_blocks blocks

abbrev pub are_settings : Settings → Bool
are_settings s = is_name s.cluster && is_between BUDGET_LEAST BUDGET_MOST s.budget && is_between 1 VERSION_MOST s.max_version && is_between 1 SEATS_MOST s.seats && is_between 1 WORKERS_MOST s.workers
