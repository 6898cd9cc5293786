-- A run of calls of a hub.
use Rattle.std.specs.Prelude.{ℕ, List, [], ◌∷◌}
use Rattle.sb_watch.specs.declared.note.Filter.{Filter}
use Rattle.sb_watch.specs.declared.note.Note.{Note}
use Rattle.sb_watch.specs.Records.{Hub}
use Rattle.sb_watch.specs.Hubs.{with_watch, with_push, with_answer, without_watch}

-- a call that changes a hub: it adds a watch, pushes a note, asks a watch, or drops a watch
pub data Call : Type 0 where
  adds : Filter → ℕ → Call
  pushes : Note → Call
  takes : ℕ → Call
  drops : ℕ → Call

abbrev pub hub_after_call : Call → Hub → Hub
hub_after_call (adds filter capacity) hub = with_watch hub filter capacity
hub_after_call (pushes note) hub = with_push hub note
hub_after_call (takes id) hub = with_answer hub id
hub_after_call (drops id) hub = without_watch hub id

abbrev pub hub_after : List Call → Hub → Hub
hub_after [] hub = hub
hub_after (call ∷ calls) hub = hub_after calls (hub_after_call call hub)
