-- What a watch does with a note, and what it answers.
use Rattle.std.specs.Prelude.{ℕ, ◌+◌, ◌-◌, ◌^◌, min, Bool, true, ◌&&◌, ◌==◌, nat_lt, nat_eq, if◌then◌else◌, List, [], ◌∷◌, ◌++◌, length, drop, Option, Some, None}
use Rattle.std.specs.List.{starts_with}
use Rattle.std.specs.Cmp.Lexicographic.{pointwise}
use Rattle.circular_buffer.specs.Buffer.{keep_last}
use Rattle.sb_watch.specs.declared.note.Filter.{Filter}
use Rattle.sb_watch.specs.declared.note.Note.{Note}
use Rattle.sb_watch.specs.declared.note.Polled.{Polled}
use Rattle.sb_watch.specs.declared.note.Polled.TheVariants as answers
use Rattle.sb_watch.specs.Records.{Watch}

-- the owner is the wanted one, if one is wanted
abbrev pub is_wanted : Option (List ℕ) → List ℕ → Bool
is_wanted None owner = true
is_wanted (Some wanted) owner = pointwise nat_eq wanted owner

-- the key begins with the prefix; a whole table has keys under each prefix
abbrev pub is_under : List ℕ → Option (List ℕ) → Bool
is_under prefix None = true
is_under prefix (Some key) = starts_with nat_eq key prefix

-- the note is of the filter's owner, and of a key that begins with the filter's prefix
abbrev pub matches : Filter → Note → Bool
matches filter note = is_wanted filter.owner note.owner && is_under filter.prefix note.key

-- a watch that received no note yet
abbrev pub new_watch : ℕ → Filter → ℕ → Watch
new_watch id filter capacity = record { id = id; filter = filter; capacity = capacity; notes = []; lost = 0 }

-- one more is lost if there is no room, up to 2^64 - 1
abbrev pub lost_with_one_more : Watch → ℕ
lost_with_one_more w = if nat_lt (length w.notes) w.capacity then w.lost else min (2 ^ 64 - 1) (w.lost + 1)

-- the last notes that there is room for, this one after the others
abbrev pub with_note : Watch → Note → Watch
with_note w note =
    let notes = keep_last w.capacity (w.notes ++ note ∷ []) in
    record { id = w.id; filter = w.filter; capacity = w.capacity; notes = notes; lost = lost_with_one_more w }

-- the watch after it received a note
abbrev pub watch_after_note : Note → Watch → Watch
watch_after_note note w = if matches w.filter note then with_note w note else w

abbrev pub oldest_answer : List Note → Polled
oldest_answer [] = answers.Empty
oldest_answer (note ∷ notes) = answers.Note note

-- what it answers: how many were lost, if it did not report that yet; else the oldest note that is left
abbrev pub answer_of : Watch → Polled
answer_of w = if w.lost == 0 then oldest_answer w.notes else answers.Lagged w.lost

-- the watch after it answered: that number was reported, or that note was handed out
abbrev pub watch_after_answer : Watch → Watch
watch_after_answer w =
    record { id = w.id; filter = w.filter; capacity = w.capacity; notes = if w.lost == 0 then drop 1 w.notes else w.notes; lost = 0 }

-- it has no note to hand out, and lost none that it did not report
abbrev pub owes_nothing : Watch → Bool
owes_nothing w = w.lost == 0 && length w.notes == 0
