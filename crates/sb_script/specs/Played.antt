-- What the commands of a script do to its world, and what they print.
use Rattle.std.specs.Prelude.{◌≡◌, ◌⊎◌, ℕ, List, Bool, true, false, Option, Result, Ok, Err}
use Rattle.std.specs.Io.KnownBytes.{Appends, Keeps}
use Rattle.sb_types.specs.declared.fault.Fault.{Fault}
use Rattle.sb_world.specs.declared.event.Event.{Event}
use Rattle.sb_world.specs.declared.event.Answer.{Answer}
use Rattle.sb_world.specs.Places.{Seen, frame_at}
use Rattle.sb_world.specs.Turns.{Effect}
use Rattle.sb_world.specs.Steps.{Step}
use Rattle.sb_script.specs.declared.command.Command.{Command}
use Rattle.sb_script.specs.declared.command.Command.TheVariants as commands
use Rattle.sb_script.specs.declared.line.Line.{Line}
use Rattle.sb_script.specs.Commands.{IsCommand}
use Rattle.sb_script.specs.Faults.{is_word_fault}
use Rattle.sb_script.specs.Giving.{PlaysGive}
use Rattle.sb_script.specs.Printed.{lines_of, fault_line, write_lines, shown_frame}

-- an event happens, and its answer is printed
abbrev pub PlaysStep : Seen → Event → Option (List ℕ) → Option (List ℕ) → Seen → Type 0
PlaysStep old event before after new =
    (effect : Effect) × (answer : Result Answer Fault) × Step old event answer effect new × Appends before after (lines_of event answer)

-- the fault of a commit is printed; after any other answer comes the take
abbrev pub PlaysTake : Result Answer Fault → Seen → Event → Option (List ℕ) → Option (List ℕ) → Seen → Type 0
PlaysTake (Err fault) old take before after new = (new ≡ old) × Appends before after (fault_line fault)
PlaysTake (Ok _) old take before after new =
    (effect : Effect) × (answer : Result Answer Fault) × Step old take answer effect new × Appends before after (write_lines take answer)

abbrev pub PlaysWrite : Seen → Event → Event → Option (List ℕ) → Option (List ℕ) → Seen → Type 0
PlaysWrite old commit take before after new =
    (middle : Seen) × (effect : Effect) × (answer : Result Answer Fault) × Step old commit answer effect middle × PlaysTake answer middle take before after new

abbrev pub Plays : Seen → Command → Option (List ℕ) → Option (List ℕ) → Seen → Type 0
Plays old (commands.Step event) before after new = PlaysStep old event before after new
Plays old (commands.Write commit take) before after new = PlaysWrite old commit take before after new
Plays old (commands.Give giver taker above) before after new = PlaysGive old giver taker above before after new
Plays old (commands.Show frame) before after new = (new ≡ old) × Appends before after (shown_frame (frame_at old.sent frame))

-- a line does what it asks for
abbrev pub PlaysCommand : Seen → Option (List ℕ) → Option (List ℕ) → Seen → Type 0
PlaysCommand old before after new = (line : Line) × (command : Command) × IsCommand line command × Plays old command before after new

-- a line prints a fault alone if one of its words is not a name, a key or a value, or if memory is missing
abbrev pub PlaysFault : Seen → Option (List ℕ) → Option (List ℕ) → Seen → Type 0
PlaysFault old before after new = (fault : Fault) × (is_word_fault fault ≡ true) × (new ≡ old) × Appends before after (fault_line fault)

-- a line that is not a command does nothing
abbrev pub PlaysLine : Bool → Seen → Option (List ℕ) → Option (List ℕ) → Seen → Type 0
PlaysLine false old before after new = (new ≡ old) × Keeps before after
PlaysLine true old before after new = PlaysCommand old before after new ⊎ PlaysFault old before after new
