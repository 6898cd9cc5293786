-- The lines that a script prints.
use Rattle.std.specs.Prelude.{ℕ, ◌/◌, ◌%◌, List, [], ◌∷◌, ◌++◌, codes, decimal, flat_map, Option, Some, None, Result, Ok, Err}
use Rattle.std.specs.Char.{digit_char}
use Rattle.sb_types.specs.declared.fault.Fault.{Fault}
use Rattle.sb_types.specs.Faults.{number_of}
use Rattle.sb_types.specs.Value.{Value, line_of}
use Rattle.sb_holdings.specs.declared.ends.BlockEnd.{BlockEnd}
use Rattle.sb_holdings.specs.declared.ends.BlockEnd.TheVariants as ends
use Rattle.sb_world.specs.declared.event.Item.{Item}
use Rattle.sb_world.specs.declared.event.Item.TheVariants.{Ended, Replied}
use Rattle.sb_world.specs.declared.event.Event.{Event}
use Rattle.sb_world.specs.declared.event.Event.TheVariants.{Read}
use Rattle.sb_world.specs.declared.event.Answer.{Answer}
use Rattle.sb_world.specs.declared.event.Answer.TheVariants.{Nothing, Committed, Took, Crashed, Purged, Trimmed, Restarted, Sent, Shut, Lined, Delivered, Shown, Number}

abbrev pub line : List ℕ → List ℕ
line text = text ++ 10 ∷ []

-- a word, and then a number
abbrev pub number_line : List ℕ → ℕ → List ℕ
number_line word number = line (word ++ decimal number)

abbrev pub fault_line : Fault → List ℕ
fault_line fault = number_line (codes "fault ") (number_of fault)

-- a line that is not a command, by its number
abbrev pub wrong_line : ℕ → List ℕ
wrong_line number = number_line (codes "line ") number

-- the two digits of a byte
abbrev pub hex : ℕ → List ℕ
hex byte = digit_char (byte / 16) ∷ digit_char (byte % 16) ∷ []

abbrev pub frame_line : List ℕ → List ℕ
frame_line frame = line (flat_map hex frame)

abbrev pub end_line : BlockEnd → List ℕ
end_line ends.Own = line (codes "own")
end_line (ends.OwnAhead version) = number_line (codes "own-ahead ") version
end_line ends.Gap = line (codes "gap")
end_line ends.Stale = line (codes "stale")
end_line ends.OwnersFull = line (codes "owners-full")
end_line (ends.Taken count) = number_line (codes "taken ") count
end_line (ends.TooManyKeys count) = number_line (codes "too-many-keys ") count
end_line (ends.NoMemory count) = number_line (codes "no-memory ") count

abbrev pub item_line : Item → List ℕ
item_line (Ended end) = end_line end
item_line (Replied number) = number_line (codes "frame ") number

-- each item, then the fault; if there is neither, the line `nothing`
abbrev pub piece_lines : List Item → Option Fault → List ℕ
piece_lines [] None = line (codes "nothing")
piece_lines (item ∷ items) None = flat_map item_line (item ∷ items)
piece_lines items (Some fault) = flat_map item_line items ++ fault_line fault

-- owner, key, version and the two words of the value
abbrev pub value_line : List ℕ → List ℕ → ℕ → Value → List ℕ
value_line owner key version value = line (owner ++ 32 ∷ (key ++ 32 ∷ (decimal version ++ 32 ∷ line_of value)))

-- only a read shows a value
abbrev pub shown_line : Event → Value → ℕ → List ℕ
shown_line (Read me owner key) value version = value_line owner key version value
shown_line _ value version = []

abbrev pub answer_lines : Event → Answer → List ℕ
answer_lines event Nothing = line (codes "nothing")
answer_lines event (Committed version) = number_line (codes "committed ") version
answer_lines event (Took version) = number_line (codes "took ") version
answer_lines event Crashed = line (codes "crashed")
answer_lines event (Purged floor) = number_line (codes "purged ") floor
answer_lines event (Trimmed floor) = number_line (codes "trimmed ") floor
answer_lines event (Restarted version) = number_line (codes "restarted ") version
answer_lines event (Sent number) = number_line (codes "frame ") number
answer_lines event Shut = line (codes "closed")
answer_lines event Lined = line (codes "lined")
answer_lines event (Delivered items fault) = piece_lines items fault
answer_lines event (Shown (Some (value, version))) = shown_line event value version
answer_lines event (Shown None) = line (codes "none")
answer_lines event (Number version) = number_line [] version

-- what an event answers, or its fault
abbrev pub lines_of : Event → Result Answer Fault → List ℕ
lines_of event (Ok answer) = answer_lines event answer
lines_of event (Err fault) = fault_line fault

-- a write that was entered is printed by its version
abbrev pub write_lines : Event → Result Answer Fault → List ℕ
write_lines take (Ok (Took version)) = number_line (codes "version ") version
write_lines take answer = lines_of take answer

-- the frame of a number, if one was sent
abbrev pub shown_frame : Option (List ℕ) → List ℕ
shown_frame None = line (codes "nothing")
shown_frame (Some frame) = frame_line frame
