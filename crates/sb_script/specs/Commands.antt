-- The command that a line is.
use Rattle.std.specs.Prelude.{◌≡◌, Option, Some, None}
use Rattle.sb_types.specs.declared.entry.Slot.{Slot}
use Rattle.sb_types.specs.declared.entry.Slot.TheVariants.{Set, Removed}
use Rattle.sb_types.specs.Value.{words_of}
use Rattle.sb_world.specs.declared.event.Event.TheVariants as events
use Rattle.sb_script.specs.declared.words.ValueWords.{ValueWords}
use Rattle.sb_script.specs.declared.words.WriteWords.{WriteWords}
use Rattle.sb_script.specs.declared.line.Line.{Line}
use Rattle.sb_script.specs.declared.line.Line.TheVariants as lines
use Rattle.sb_script.specs.declared.command.Command.{Command}
use Rattle.sb_script.specs.declared.command.Command.TheVariants as commands

-- two words give a key the value of these words; a removal gives it none
abbrev pub IsSlot : Option ValueWords → Slot → Type 0
IsSlot None slot = slot ≡ Removed
IsSlot (Some words) (Set value) = words_of value ≡ (words.kind.now, words.content.now)
IsSlot (Some words) Removed = ⊥

-- the command of a line with a write is made from its slot
abbrev pub IsOfWrite : WriteWords → (Slot → Command) → Command → Type 0
IsOfWrite words make command = (slot : Slot) × IsSlot words.value slot × (command ≡ make slot)

abbrev pub IsCommand : Line → Command → Type 0
IsCommand (lines.Commit w) command = IsOfWrite w (λ slot. commands.Step (events.Commit w.node.now w.key.now slot)) command
IsCommand (lines.Write w) command = IsOfWrite w (λ slot. commands.Write (events.Commit w.node.now w.key.now slot) (events.Take w.node.now)) command
IsCommand (lines.Crash w is_kept) command = IsOfWrite w (λ slot. commands.Step (events.CrashInCommit w.node.now w.key.now slot is_kept)) command
IsCommand (lines.Take node) command = command ≡ commands.Step (events.Take node.now)
IsCommand (lines.Purge node floor) command = command ≡ commands.Step (events.Purge node.now floor)
IsCommand (lines.Trim node floor) command = command ≡ commands.Step (events.Trim node.now floor)
IsCommand (lines.Restart node) command = command ≡ commands.Step (events.Restart node.now)
IsCommand (lines.Connect node connection) command = command ≡ commands.Step (events.Connect node.now connection)
IsCommand (lines.Close connection) command = command ≡ commands.Step (events.Close connection)
IsCommand (lines.LineUp connection frame) command = command ≡ commands.Step (events.Line connection frame)
IsCommand (lines.Piece connection count) command = command ≡ commands.Step (events.Piece connection count)
IsCommand (lines.Ask connection) command = command ≡ commands.Step (events.Ask connection)
IsCommand (lines.Offer node owner after) command = command ≡ commands.Step (events.Offer node.now owner.now after)
IsCommand (lines.Read node owner key) command = command ≡ commands.Step (events.Read node.now owner.now key.now)
IsCommand (lines.Upto node owner) command = command ≡ commands.Step (events.Upto node.now owner.now)
IsCommand (lines.Show frame) command = command ≡ commands.Show frame
IsCommand (lines.Give giver taker after) command = command ≡ commands.Give giver.now taker.now after
