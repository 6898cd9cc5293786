-- A watch over a whole run of notes and questions: what it owes, and how it answers.
use Rattle.std.specs.Prelude.{◌≡◌, ◌-◌, ◌<◌, ◌≤◌, if◌then◌else◌, List, [], ◌∷◌, length, drop}
use Rattle.circular_buffer.specs.Buffer.{keep_last}
use Rattle.sb_watch.specs.declared.note.Filter.{Filter}
use Rattle.sb_watch.specs.declared.note.Note.{Note}
use Rattle.sb_watch.specs.declared.note.Polled.{Polled}
use Rattle.sb_watch.specs.declared.note.Polled.TheVariants as answers
use Rattle.sb_watch.specs.Records.{Watch}
use Rattle.sb_watch.specs.Watches.{matches, watch_after_note, answer_of, watch_after_answer}

-- what happens to a watch: a note comes, or it is asked
pub data Deed : Type 0 where
  comes : Note → Deed
  asked : Deed

-- the watch after these deeds, one after another
abbrev pub watch_after : List Deed → Watch → Watch
watch_after [] w = w
watch_after (comes note ∷ deeds) w = watch_after deeds (watch_after_note note w)
watch_after (asked ∷ deeds) w = watch_after deeds (watch_after_answer w)

-- what it answered on the way
abbrev pub answers_after : List Deed → Watch → List Polled
answers_after [] w = []
answers_after (comes note ∷ deeds) w = answers_after deeds (watch_after_note note w)
answers_after (asked ∷ deeds) w = answer_of w ∷ answers_after deeds (watch_after_answer w)

-- the notes that came and match, in the order in which they came
abbrev pub matching_notes : Filter → List Deed → List Note
matching_notes filter [] = []
matching_notes filter (comes note ∷ deeds) = if matches filter note then note ∷ matching_notes filter deeds else matching_notes filter deeds
matching_notes filter (asked ∷ deeds) = matching_notes filter deeds

-- The answers account for the notes, up to those that are still owed. Each note in its turn is handed out, or is among
-- those reported as lost.
abbrev pub Account : List Polled → List Note → List Note → Type 0
Account [] notes owed = notes ≡ owed
Account (answers.Empty ∷ given) notes owed = Account given notes owed
Account (answers.Lagged n ∷ given) notes owed = (0 < n) × (n ≤ length notes) × Account given (drop n notes) owed
Account (answers.Note note ∷ given) [] owed = ⊥
Account (answers.Note note ∷ given) (next ∷ notes) owed = (note ≡ next) × Account given notes owed

-- of the notes that are owed the watch keeps the last, as many as there is room for, and counts the others
pub record Keeps (w : Watch) (owed : List Note) : Type 0 where
  pub notes : w.notes ≡ keep_last w.capacity owed
  pub lost : w.lost ≡ length owed - w.capacity
