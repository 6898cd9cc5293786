-- What the calls of a hub answer, and what they make of it.
use Rattle.std.specs.Prelude.{◌≡◌, ℕ, ◌+◌, ◌-◌, ◌^◌, ◌≤◌, Bool, true, not, ◌&&◌, ◌||◌, ◌==◌, nat_le, if◌then◌else◌, List, [], ◌∷◌, ◌++◌, map, filter, find, length, Option, Some, None, Result, Ok, Err}
use Rattle.std.specs.List.{list_any, AllByRecursion}
use Rattle.sb_types.specs.Text.{is_between}
use Rattle.sb_types.specs.declared.fault.Fault.{Fault}
use Rattle.sb_types.specs.declared.fault.Fault.TheVariants.{BadSetting, NoWatch, WatchesFull}
use Rattle.sb_watch.specs.declared.limits.TheConstants.{WATCHES_MOST, RING_MOST}
use Rattle.sb_watch.specs.declared.note.Filter.{Filter}
use Rattle.sb_watch.specs.declared.note.Note.{Note}
use Rattle.sb_watch.specs.declared.note.Polled.{Polled}
use Rattle.sb_watch.specs.Records.{Watch, Hub}
use Rattle.sb_watch.specs.Watches.{new_watch, watch_after_note, owes_nothing, answer_of, watch_after_answer}

-- a hub that never had a watch
abbrev pub new_hub : Hub
new_hub = record { watches = []; next = 0 }

abbrev pub is_id : ℕ → Watch → Bool
is_id id w = w.id == id

abbrev pub has_watch : Hub → ℕ → Bool
has_watch hub id = list_any (is_id id) hub.watches

-- there is no room for another watch, or no unused id is left
abbrev pub is_full : Hub → Bool
is_full hub = nat_le WATCHES_MOST (length hub.watches) || hub.next == 2 ^ 64 - 1

-- the id of a watch that is added, or why it cannot be added
abbrev pub next_id : Hub → ℕ → Result ℕ Fault
next_id hub capacity =
    if not (is_between 1 RING_MOST capacity) then Err BadSetting
    else (if is_full hub then Err WatchesFull else Ok hub.next)

-- the hub with another watch, whose id no other had or will have
abbrev pub with_watch : Hub → Filter → ℕ → Hub
with_watch hub filter capacity = record { watches = hub.watches ++ new_watch hub.next filter capacity ∷ []; next = hub.next + 1 }

-- every watch received the note
abbrev pub with_push : Hub → Note → Hub
with_push hub note = record { watches = map (watch_after_note note) hub.watches; next = hub.next }

-- the watch of this id, if there is one
abbrev pub watch_at : Hub → ℕ → Option Watch
watch_at hub id = find (is_id id) hub.watches

abbrev pub answer_if_found : Option Watch → Result Polled Fault
answer_if_found None = Err NoWatch
answer_if_found (Some w) = Ok (answer_of w)

-- the answer of the watch of this id
abbrev pub answer_at : Hub → ℕ → Result Polled Fault
answer_at hub id = answer_if_found (watch_at hub id)

-- the watch of this id has answered, and the others are as they were
abbrev pub with_answer : Hub → ℕ → Hub
with_answer hub id = record { watches = map (λ w. if is_id id w then watch_after_answer w else w) hub.watches; next = hub.next }

abbrev pub note_if_found : Option Watch → Result Bool Fault
note_if_found None = Err NoWatch
note_if_found (Some w) = Ok (not (owes_nothing w))

-- the watch of this id has a note, or lost one
abbrev pub has_note_at : Hub → ℕ → Result Bool Fault
has_note_at hub id = note_if_found (watch_at hub id)

-- some watch has a note, or lost one
abbrev pub has_notes : Hub → Bool
has_notes hub = list_any (λ w. not (owes_nothing w)) hub.watches

-- only the others
abbrev pub without_watch : Hub → ℕ → Hub
without_watch hub id = record { watches = filter (λ w. not (is_id id w)) hub.watches; next = hub.next }

-- the ids ascend from the least on, and are below next
abbrev pub are_ids : ℕ → ℕ → List ℕ → Bool
are_ids least next [] = nat_le least next
are_ids least next (id ∷ ids) = nat_le least id && are_ids (id + 1) next ids

abbrev pub id_of : Watch → ℕ
id_of w = w.id

-- what holds of every hub
pub record IsHub (hub : Hub) : Type 0 where
  -- no two watches have the same id, and no watch has the next one
  pub ids : are_ids 0 hub.next (map id_of hub.watches) ≡ true
  pub few : length hub.watches ≤ WATCHES_MOST

-- every note that a watch keeps passes the test
abbrev pub AllNotes : (Note → Bool) → Hub → Type 0
AllNotes test hub = AllByRecursion (λ w. AllByRecursion (λ note. test note ≡ true) w.notes) hub.watches
