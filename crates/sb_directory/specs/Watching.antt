-- A watch of a directory: which changes it is for, and from when on it reports them.
use Rattle.std.specs.Prelude.{◌≡◌, ℕ, ◌<◌, ◌==◌, Bool, true, false, not, if◌then◌else◌, List, [], ◌∷◌, ◌++◌, map, filter, Some, Result, Ok, Err}
use Rattle.std.specs.Result.{result_unwrap_or}
use Rattle.std.specs.List.{list_any}
use Rattle.sb_types.specs.declared.fault.Fault.{Fault}
use Rattle.sb_holdings.specs.Nodes.{Node, replay_node}
use Rattle.sb_holdings.specs.Treats.{took_each}
use Rattle.sb_watch.specs.declared.note.Filter.{Filter}
use Rattle.sb_watch.specs.declared.note.Note.{Note}
use Rattle.sb_watch.specs.declared.note.Polled.{Polled}
use Rattle.sb_watch.specs.declared.note.Polled.TheVariants as answers
use Rattle.sb_watch.specs.Records.{Watch, Hub}
use Rattle.sb_watch.specs.Watches.{matches, owes_nothing}
use Rattle.sb_watch.specs.Hubs.{watch_at, next_id, has_note_at}
use Rattle.sb_views.specs.declared.event.Event.{Event}
use Rattle.sb_views.specs.declared.event.Event.TheVariants.{TookOwn, Applied, Purged}
use Rattle.sb_views.specs.Histories.{node_events_of, node_after}
use Rattle.sb_directory.specs.Notes.{note_of, notes_of_blocks}

pub record DirectoryWatch : Type 0 where
  pub id : ℕ
  -- which changes it is for
  pub filter : Filter
  -- the history after which it reports them: as it was when the watch last had nothing to report
  pub since : List Event

-- of what an event changed of a node: the write, or what the blocks changed; a purge changes no row
abbrev pub notes_of_event : Node → Event → List Note
notes_of_event node (TookOwn e) = note_of node.held.me e ∷ []
notes_of_event node (Applied blocks ends) = notes_of_blocks blocks node.held (replay_node node (took_each blocks ends)).held
notes_of_event node (Purged floor) = []

-- of what these events changed of a node, one after another
abbrev pub notes_of_events : Node → List Event → List Note
notes_of_events node [] = []
notes_of_events node (event ∷ events) = notes_of_event node event ++ notes_of_events (replay_node node (node_events_of event)) events

-- The history goes on from where the watch began to report. The answer says whether an event since then changed anything that the
-- watch is for.
pub record SaysOf (opening : Node) (history : List Event) (watch : DirectoryWatch) (answer : Bool) : Type 0 where
  pub later : List Event
  pub goes_on : history ≡ watch.since ++ later
  pub right : answer ≡ list_any (matches watch.filter) (notes_of_events (node_after opening watch.since) later)

-- the hub has this watch, for the same changes, and it owes a note exactly if something changed
pub record IsWatched (opening : Node) (history : List Event) (hub : Hub) (watch : DirectoryWatch) : Type 0 where
  pub kept : Watch
  pub found : watch_at hub watch.id ≡ Some kept
  pub same : kept.filter ≡ watch.filter
  pub room : 0 < kept.capacity
  pub says : SaysOf opening history watch (not (owes_nothing kept))

-- the answer reports a change
abbrev pub reports : Polled → Bool
reports answers.Empty = false
reports (answers.Note note) = true
reports (answers.Lagged lost) = true

abbrev pub has_id : ℕ → DirectoryWatch → Bool
has_id id watch = watch.id == id

-- the watch of this id owes a note; so it is taken of a watch that is not there
abbrev pub owes_at : Hub → ℕ → Bool
owes_at hub id = result_unwrap_or (has_note_at hub id) true

-- it reports what comes after this history
abbrev pub watching_from : List Event → DirectoryWatch → DirectoryWatch
watching_from history watch = record { id = watch.id; filter = watch.filter; since = history }

-- the watch of this id reports what comes after this history
abbrev pub renewed : ℕ → List Event → DirectoryWatch → DirectoryWatch
renewed id history watch = if has_id id watch then watching_from history watch else watch

-- unless it owes a note, the watch of this id begins anew after this history
abbrev pub watches_after : Hub → List Event → ℕ → List DirectoryWatch → List DirectoryWatch
watches_after hub history id watches = if owes_at hub id then watches else map (renewed id history) watches

abbrev pub watch_after : Hub → List Event → DirectoryWatch → DirectoryWatch
watch_after hub history watch = if owes_at hub watch.id then watch else watching_from history watch

-- the watch that is given to who asks for one, or why there is none
abbrev pub watch_if_given : Filter → List Event → Result ℕ Fault → Result DirectoryWatch Fault
watch_if_given filter history (Ok id) = Ok (record { id = id; filter = filter; since = history })
watch_if_given filter history (Err fault) = Err fault

abbrev pub watch_given : Hub → Filter → ℕ → List Event → Result DirectoryWatch Fault
watch_given hub filter capacity history = watch_if_given filter history (next_id hub capacity)

-- only the watches of other ids
abbrev pub others : ℕ → List DirectoryWatch → List DirectoryWatch
others id watches = filter (λ w. not (has_id id w)) watches
