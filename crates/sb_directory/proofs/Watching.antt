-- A watch reports what changed since: the notes of each event are pushed into the hub.
use Rattle.std.proofs.Common.{◌≡◌, ◌≢◌, ℕ, ◌+◌, ◌-◌, ◌<◌, ◌==◌, Bool, true, false, not, cond, ◌&&◌, ◌||◌, List, [], ◌∷◌, ◌++◌, length, drop, map, filter, find, flat_map, Option, Some, None, Result, Ok, Err, IfOk, IfErr, OnOk, OnErr, IsOk, MatchBool, is_ok, refl, sym, ap, ap₂, subst, ◌∙◌, arith, append_assoc, append-nil, true≢false, nat_le, ◌⊎◌, inl, inr}
use Rattle.std.specs.List.{list_any, AllByRecursion}
use Rattle.std.specs.Option.{option_map, option_or}
use Rattle.std.specs.Result.{result_unwrap_or}
use Rattle.std.proofs.lemmas.Bool.{cond-true, and_parts, leb-true, eqb-true, eq-eqb, ne_eqb}
use Rattle.std.proofs.lemmas.Grind.{flat_map-append}
use Rattle.std.proofs.lemmas.List.{length-append, length-drop}
use Rattle.std.proofs.lemmas.List.Folds.{find-append, list_any-append}
use Rattle.sb_types.specs.Runs.{Stands}
use Rattle.sb_types.specs.Text.{is_between}
use Rattle.sb_types.specs.declared.fault.Fault.{Fault}
use Rattle.sb_types.specs.declared.fault.Fault.TheVariants.{BadSetting, WatchesFull, NoWatch}
use Rattle.sb_holdings.specs.Nodes.{Node, replay_node}
use Rattle.sb_holdings.proofs.Nodes.{replay_node-append}
use Rattle.sb_watch.specs.declared.limits.TheConstants.{RING_MOST}
use Rattle.sb_watch.specs.declared.note.Filter.{Filter}
use Rattle.sb_watch.specs.declared.note.Note.{Note}
use Rattle.sb_watch.specs.declared.note.Polled.{Polled}
use Rattle.sb_watch.specs.declared.note.Polled.TheVariants as answers
use Rattle.sb_watch.specs.Records.{Watch, Hub}
use Rattle.sb_watch.specs.Watches.{matches, new_watch, with_note, watch_after_note, owes_nothing, oldest_answer, answer_of, watch_after_answer}
use Rattle.sb_watch.specs.Hubs.{is_id, has_watch, is_full, next_id, watch_at, answer_if_found, answer_at, note_if_found, has_note_at, with_watch, with_push, with_answer, without_watch}
use Rattle.sb_watch.proofs.Places.{none_found}
use Rattle.sb_watch.proofs.Alone.{pushed_at, answered_at, others_unasked, others_left}
use Rattle.sb_views.specs.declared.event.Event.{Event}
use Rattle.sb_views.specs.Histories.{node_events_of, node_after}
use Rattle.sb_directory.specs.Notes.{with_notes}
use Rattle.sb_directory.specs.Watching.{DirectoryWatch, notes_of_event, notes_of_events, SaysOf, IsWatched, reports, has_id, owes_at, watching_from, renewed, watches_after}

or_or : (x y z : Bool) → ((x || y) || z) ≡ (x || (y || z))
or_or true y z = refl
or_or false y z = refl

or_none : (x : Bool) → (x || false) ≡ x
or_none true = refl
or_none false = refl

or_all : (x : Bool) → (x || true) ≡ true
or_all true = refl
or_all false = refl

and_none : (x y : Bool) → y ≡ false → (x && y) ≡ false
and_none true y none = none
and_none false y none = refl

-- ---- one watch and one note

has-note : (w : Watch) (note : Note) → 0 < w.capacity → owes_nothing (with_note w note) ≡ false
has-note w note room =
    let all = w.notes ++ note ∷ [] in
    let longer = length-append w.notes (note ∷ []) in
    let left = length-drop (length all - w.capacity) all in
    and_none ((with_note w note).lost == 0) (length (with_note w note).notes == 0)
    (ne_eqb (length (drop (length all - w.capacity) all)) 0 (λ none. omega (arith, longer, left, none, room)))

owes-told : (w : Watch) (note : Note) → 0 < w.capacity → not (owes_nothing (watch_after_note note w)) ≡ (not (owes_nothing w) || matches w.filter note)
owes-told w note room = go (matches w.filter note)
  where
    go : (b : Bool) → not (owes_nothing (cond b (with_note w note) w)) ≡ (not (owes_nothing w) || b)
    go true = ap not (has-note w note room) ∙ sym (or_all (not (owes_nothing w)))
    go false = sym (or_none (not (owes_nothing w)))

told-filter : (w : Watch) (note : Note) → (watch_after_note note w).filter ≡ w.filter
told-filter w note = go (matches w.filter note)
  where
    go : (b : Bool) → (cond b (with_note w note) w).filter ≡ w.filter
    go true = refl
    go false = refl

told-capacity : (w : Watch) (note : Note) → (watch_after_note note w).capacity ≡ w.capacity
told-capacity w note = go (matches w.filter note)
  where
    go : (b : Bool) → (cond b (with_note w note) w).capacity ≡ w.capacity
    go true = refl
    go false = refl

-- ---- one watch and many notes

record IsTold (hub : Hub) (id : ℕ) (w : Watch) (ns : List Note) : Type 0 where
  told : Watch
  found : watch_at (with_notes hub ns) id ≡ Some told
  same : told.filter ≡ w.filter
  room : 0 < told.capacity
  owes : not (owes_nothing told) ≡ (not (owes_nothing w) || list_any (matches w.filter) ns)

told-all : (hub : Hub) (id : ℕ) (w : Watch) (ns : List Note) → watch_at hub id ≡ Some w → 0 < w.capacity → IsTold hub id w ns
told-all hub id w [] found room = record { told = w; found = found; same = refl; room = room; owes = sym (or_none (not (owes_nothing w))) }
told-all hub id w (n ∷ ns) found room =
    let next : watch_at (with_push hub n) id ≡ Some (watch_after_note n w) = pushed_at hub n id ∙ ap (option_map (watch_after_note n)) found in
    let rest = told-all (with_push hub n) id (watch_after_note n w) ns next (subst (λ (c : ℕ). 0 < c) (sym (told-capacity w n)) room) in
    record {
      told = rest.told;
      found = rest.found;
      same = rest.same ∙ told-filter w n;
      room = rest.room;
      owes = rest.owes
          ∙ ap₂ (λ (b c : Bool). b || c) (owes-told w n room) (ap (λ (f : Filter). list_any (matches f) ns) (told-filter w n))
          ∙ or_or (not (owes_nothing w)) (matches w.filter n) (list_any (matches w.filter) ns);
    }

-- ---- events

notes-more : (node : Node) (events : List Event) (event : Event)
    → notes_of_events node (events ++ event ∷ []) ≡ notes_of_events node events ++ notes_of_event (replay_node node (flat_map node_events_of events)) event
notes-more node [] event = append-nil (notes_of_event node event)
notes-more node (e ∷ es) event =
    let next = replay_node node (node_events_of e) in
    ap (λ (ns : List Note). notes_of_event node e ++ ns)
    (notes-more next es event
    ∙ ap (λ (n : Node). notes_of_events next es ++ notes_of_event n event) (sym (replay_node-append node (node_events_of e) (flat_map node_events_of es))))
    ∙ sym (append_assoc (notes_of_event node e) (notes_of_events next es) (notes_of_event (replay_node node (flat_map node_events_of (e ∷ es))) event))

node-later : (opening : Node) (since later : List Event) → node_after opening (since ++ later) ≡ replay_node (node_after opening since) (flat_map node_events_of later)
node-later opening since later =
    ap (replay_node opening) (flat_map-append node_events_of since later) ∙ replay_node-append opening (flat_map node_events_of since) (flat_map node_events_of later)

says-more : (opening : Node) (history : List Event) (event : Event) (watch : DirectoryWatch) (old new : Bool) → SaysOf opening history watch old
    → new ≡ (old || list_any (matches watch.filter) (notes_of_event (node_after opening history) event)) → SaysOf opening (history ++ event ∷ []) watch new
says-more opening history event watch old new says step =
    let from = node_after opening watch.since in
    let at : node_after opening history ≡ replay_node from (flat_map node_events_of says.later) = ap (node_after opening) says.goes_on ∙ node-later opening watch.since says.later in
    record {
      later = says.later ++ event ∷ [];
      goes_on = ap (λ (h : List Event). h ++ event ∷ []) says.goes_on ∙ append_assoc watch.since says.later (event ∷ []);
      right = step
          ∙ ap₂ (λ (b c : Bool). b || c) says.right (ap (λ (n : Node). list_any (matches watch.filter) (notes_of_event n event)) at)
          ∙ sym (list_any-append (matches watch.filter) (notes_of_events from says.later) (notes_of_event (replay_node from (flat_map node_events_of says.later)) event))
          ∙ sym (ap (list_any (matches watch.filter)) (notes-more from says.later event));
    }

still-watched : (opening : Node) (history : List Event) (event : Event) (hub new : Hub) (watch : DirectoryWatch) → IsWatched opening history hub watch
    → new ≡ with_notes hub (notes_of_event (node_after opening history) event) → IsWatched opening (history ++ event ∷ []) new watch
still-watched opening history event hub new watch is step =
    let notes = notes_of_event (node_after opening history) event in
    let told = told-all hub watch.id is.kept notes is.found is.room in
    record {
      kept = told.told;
      found = ap (λ (h : Hub). watch_at h watch.id) step ∙ told.found;
      same = told.same ∙ is.same;
      room = told.room;
      says = says-more opening history event watch (not (owes_nothing is.kept)) (not (owes_nothing told.told)) is.says
          (told.owes ∙ ap (λ (f : Filter). not (owes_nothing is.kept) || list_any (matches f) notes) is.same);
    }

pub all-still : (opening : Node) (history : List Event) (event : Event) (hub new : Hub) (watches : List DirectoryWatch) → AllByRecursion (IsWatched opening history hub) watches
    → new ≡ with_notes hub (notes_of_event (node_after opening history) event) → AllByRecursion (IsWatched opening (history ++ event ∷ []) new) watches
all-still opening history event hub new [] all step = tt
all-still opening history event hub new (w ∷ ws) all step = (still-watched opening history event hub new w all.0 step, all-still opening history event hub new ws all.1 step)

-- ---- a watch is added, or dropped

nothing-yet : (opening : Node) (history : List Event) (watch : DirectoryWatch) → watch.since ≡ history → SaysOf opening history watch false
nothing-yet opening history watch since = record { later = []; goes_on = sym since ∙ sym (append-nil watch.since); right = refl }

beside : (opening : Node) (history : List Event) (hub : Hub) (filter : Filter) (capacity : ℕ) (watch : DirectoryWatch) → IsWatched opening history hub watch
    → IsWatched opening history (with_watch hub filter capacity) watch
beside opening history hub filter capacity watch is =
    let more = new_watch hub.next filter capacity ∷ [] in
    record {
      kept = is.kept;
      found = find-append (is_id watch.id) hub.watches more ∙ ap (λ (o : Option Watch). option_or o (find (is_id watch.id) more)) is.found;
      same = is.same;
      room = is.room;
      says = is.says;
    }

begun : (opening : Node) (history : List Event) (hub : Hub) (filter : Filter) (capacity : ℕ) → has_watch hub hub.next ≡ false → 0 < capacity
    → IsWatched opening history (with_watch hub filter capacity) (record { id = hub.next; filter = filter; since = history })
begun opening history hub filter capacity unused room =
    let w = new_watch hub.next filter capacity in
    record {
      kept = w;
      found = find-append (is_id hub.next) hub.watches (w ∷ [])
          ∙ ap (λ (o : Option Watch). option_or o (find (is_id hub.next) (w ∷ []))) (none_found (is_id hub.next) hub.watches unused)
          ∙ cond-true (hub.next == hub.next) (Some w) None (eq-eqb hub.next hub.next refl);
      same = refl;
      room = room;
      says = nothing-yet opening history (record { id = hub.next; filter = filter; since = history }) refl;
    }

pub added-watched : (opening : Node) (history : List Event) (hub : Hub) (filter : Filter) (capacity : ℕ) (watches : List DirectoryWatch) → has_watch hub hub.next ≡ false → 0 < capacity
    → AllByRecursion (IsWatched opening history hub) watches
    → AllByRecursion (IsWatched opening history (with_watch hub filter capacity)) (watches ++ record { id = hub.next; filter = filter; since = history } ∷ [])
added-watched opening history hub filter capacity [] unused room all = (begun opening history hub filter capacity unused room, tt)
added-watched opening history hub filter capacity (w ∷ ws) unused room all =
    (beside opening history hub filter capacity w all.0, added-watched opening history hub filter capacity ws unused room all.1)

other-id : (id : ℕ) (watch : DirectoryWatch) → has_id id watch ≡ false → watch.id ≢ id
other-id id watch other same = true≢false (sym (eq-eqb watch.id id same) ∙ other)

pub dropped-watched : (opening : Node) (history : List Event) (hub : Hub) (id : ℕ) (watches : List DirectoryWatch) → AllByRecursion (IsWatched opening history hub) watches
    → AllByRecursion (IsWatched opening history (without_watch hub id)) (filter (λ (w : DirectoryWatch). not (has_id id w)) watches)
dropped-watched opening history hub id [] all = tt
dropped-watched opening history hub id (w ∷ ws) all = go (has_id id w) refl (dropped-watched opening history hub id ws all.1)
  where
    rest : List DirectoryWatch
    rest = filter (λ (v : DirectoryWatch). not (has_id id v)) ws

    go : (b : Bool) → has_id id w ≡ b → AllByRecursion (IsWatched opening history (without_watch hub id)) rest
        → AllByRecursion (IsWatched opening history (without_watch hub id)) (cond (not b) (w ∷ rest) rest)
    go true at left = left
    go false at left = (
      record {
        kept = all.0.kept;
        found = others_left hub id w.id (other-id id w at) ∙ all.0.found;
        same = all.0.same;
        room = all.0.room;
        says = all.0.says;
      },
      left,
    )

-- ---- a watch is asked

pub reports-owed : (w : Watch) → reports (answer_of w) ≡ not (owes_nothing w)
reports-owed w = go (w.lost == 0) w.notes
  where
    go : (b : Bool) (notes : List Note) → reports (cond b (oldest_answer notes) (answers.Lagged w.lost)) ≡ not (b && (length notes == 0))
    go true [] = refl
    go true (n ∷ ns) = sym (ap not (ne_eqb (length (n ∷ ns)) 0 (λ none. omega (arith, none))))
    go false notes = refl

-- what owes a note after it answered owed one before
owed-before : (w : Watch) → not (owes_nothing (watch_after_answer w)) ≡ true → not (owes_nothing w) ≡ true
owed-before w after = go (w.lost == 0) w.notes after
  where
    go : (b : Bool) (notes : List Note) → not (length (cond b (drop 1 notes) notes) == 0) ≡ true → not (b && (length notes == 0)) ≡ true
    go true [] owed = owed
    go true (n ∷ ns) owed = ap not (ne_eqb (length (n ∷ ns)) 0 (λ none. omega (arith, none)))
    go false notes owed = refl

answer-at : (hub : Hub) (id : ℕ) (w : Watch) (polled : Polled) → watch_at hub id ≡ Some w → answer_at hub id ≡ Ok polled → answer_of w ≡ polled
answer-at hub id w polled found at = cc

note-at : (hub : Hub) (id : ℕ) (w : Watch) (b : Bool) → watch_at hub id ≡ Some w → has_note_at hub id ≡ Ok b → not (owes_nothing w) ≡ b
note-at hub id w b found at = cc

asked-other : (opening : Node) (history : List Event) (hub : Hub) (id : ℕ) (watch : DirectoryWatch) → has_id id watch ≡ false → IsWatched opening history hub watch
    → IsWatched opening history (with_answer hub id) watch
asked-other opening history hub id watch other is = record {
  kept = is.kept;
  found = others_unasked hub id watch.id (other-id id watch other) ∙ is.found;
  same = is.same;
  room = is.room;
  says = is.says;
}

asked-same : (opening : Node) (history : List Event) (hub : Hub) (id : ℕ) (watch : DirectoryWatch) (owes : Bool) → has_id id watch ≡ true → has_note_at (with_answer hub id) id ≡ Ok owes
    → IsWatched opening history hub watch → IsWatched opening history (with_answer hub id) (cond owes watch (watching_from history watch))
asked-same opening history hub id watch owes at note is = go owes note
  where
    one : watch.id ≡ id
    one = eqb-true watch.id id at

    kept : Watch
    kept = watch_after_answer is.kept

    here : watch_at (with_answer hub id) id ≡ Some kept
    here = answered_at hub id ∙ ap (option_map watch_after_answer) (ap (watch_at hub) (sym one) ∙ is.found)

    there : watch_at (with_answer hub id) watch.id ≡ Some kept
    there = ap (watch_at (with_answer hub id)) one ∙ here

    go : (b : Bool) → has_note_at (with_answer hub id) id ≡ Ok b → IsWatched opening history (with_answer hub id) (cond b watch (watching_from history watch))
    go true owed =
        let after : not (owes_nothing kept) ≡ true = note-at (with_answer hub id) id kept true here owed in
        record {
          kept = kept;
          found = there;
          same = is.same;
          room = is.room;
          says = record { later = is.says.later; goes_on = is.says.goes_on; right = after ∙ sym (owed-before is.kept after) ∙ is.says.right };
        }
    go false owed =
        let after : not (owes_nothing kept) ≡ false = note-at (with_answer hub id) id kept false here owed in
        record {
          kept = kept;
          found = there;
          same = is.same;
          room = is.room;
          says = subst (SaysOf opening history (watching_from history watch)) (sym after) (nothing-yet opening history (watching_from history watch) refl);
        }

-- the others are as they were, and the watch that owes nothing more begins anew
asked : (opening : Node) (history : List Event) (hub : Hub) (id : ℕ) (watch : DirectoryWatch) (owes : Bool) → has_note_at (with_answer hub id) id ≡ Ok owes
    → IsWatched opening history hub watch → IsWatched opening history (with_answer hub id) (cond owes watch (renewed id history watch))
asked opening history hub id watch owes note is = go owes (has_id id watch) refl note
  where
    go : (b same : Bool) → has_id id watch ≡ same → has_note_at (with_answer hub id) id ≡ Ok b
        → IsWatched opening history (with_answer hub id) (cond b watch (cond same (watching_from history watch) watch))
    go true true at owed = asked-same opening history hub id watch true at owed is
    go false true at owed = asked-same opening history hub id watch false at owed is
    go true false at owed = asked-other opening history hub id watch at is
    go false false at owed = asked-other opening history hub id watch at is

all-asked : (opening : Node) (history : List Event) (hub : Hub) (id : ℕ) (watches : List DirectoryWatch) → has_note_at (with_answer hub id) id ≡ Ok true
    → AllByRecursion (IsWatched opening history hub) watches → AllByRecursion (IsWatched opening history (with_answer hub id)) watches
all-asked opening history hub id [] note all = tt
all-asked opening history hub id (w ∷ ws) note all = (asked opening history hub id w true note all.0, all-asked opening history hub id ws note all.1)

all-renewed : (opening : Node) (history : List Event) (hub : Hub) (id : ℕ) (watches : List DirectoryWatch) → has_note_at (with_answer hub id) id ≡ Ok false
    → AllByRecursion (IsWatched opening history hub) watches → AllByRecursion (IsWatched opening history (with_answer hub id)) (map (renewed id history) watches)
all-renewed opening history hub id [] note all = tt
all-renewed opening history hub id (w ∷ ws) note all = (asked opening history hub id w false note all.0, all-renewed opening history hub id ws note all.1)

pub all-after : (opening : Node) (history : List Event) (hub : Hub) (watches : List DirectoryWatch) (watch : DirectoryWatch) → IsWatched opening history hub watch
    → AllByRecursion (IsWatched opening history hub) watches
    → AllByRecursion (IsWatched opening history (with_answer hub watch.id)) (watches_after (with_answer hub watch.id) history watch.id watches)
all-after opening history hub watches watch is all =
    go (not (owes_nothing (watch_after_answer is.kept))) (ap note_if_found (answered_at hub watch.id ∙ ap (option_map watch_after_answer) is.found))
  where
    id : ℕ
    id = watch.id

    go : (b : Bool) → has_note_at (with_answer hub id) id ≡ Ok b
        → AllByRecursion (IsWatched opening history (with_answer hub id)) (cond (owes_at (with_answer hub id) id) watches (map (renewed id history) watches))
    go true note =
        subst (λ (c : Bool). AllByRecursion (IsWatched opening history (with_answer hub id)) (cond c watches (map (renewed id history) watches)))
        (sym (ap (λ (r : Result Bool Fault). result_unwrap_or r true) note)) (all-asked opening history hub id watches note all)
    go false note =
        subst (λ (c : Bool). AllByRecursion (IsWatched opening history (with_answer hub id)) (cond c watches (map (renewed id history) watches)))
        (sym (ap (λ (r : Result Bool Fault). result_unwrap_or r true) note)) (all-renewed opening history hub id watches note all)

-- ---- what a watch of the directory says

pub one-watched : (opening : Node) (history : List Event) (hub : Hub) (watches : List DirectoryWatch) (watch : DirectoryWatch) → AllByRecursion (IsWatched opening history hub) watches
    → Stands watches watch → IsWatched opening history hub watch
one-watched opening history hub [] watch all among = elim among [ ]
one-watched opening history hub (w ∷ ws) watch all (inl same) = subst (IsWatched opening history hub) same all.0
one-watched opening history hub (w ∷ ws) watch all (inr rest) = one-watched opening history hub ws watch all.1 rest

pub says-note : (opening : Node) (history : List Event) (hub : Hub) (watch : DirectoryWatch) (b : Bool) → IsWatched opening history hub watch → has_note_at hub watch.id ≡ Ok b
    → SaysOf opening history watch b
says-note opening history hub watch b is note = subst (SaysOf opening history watch) (note-at hub watch.id is.kept b is.found note) is.says

pub says-answer : (opening : Node) (history : List Event) (hub : Hub) (watch : DirectoryWatch) (polled : Polled) → IsWatched opening history hub watch → answer_at hub watch.id ≡ Ok polled
    → SaysOf opening history watch (reports polled)
says-answer opening history hub watch polled is answer =
    let same : answer_of is.kept ≡ polled = answer-at hub watch.id is.kept polled is.found answer in
    subst (SaysOf opening history watch) (sym (reports-owed is.kept) ∙ ap reports same) is.says

-- ---- the answer to who adds a watch

pub given-id : (hub : Hub) (capacity id : ℕ) → next_id hub capacity ≡ Ok id → (0 < capacity) × (id ≡ hub.next)
given-id hub capacity id answer = go (is_between 1 RING_MOST capacity) (is_full hub) refl answer
  where
    go : (b full : Bool) → is_between 1 RING_MOST capacity ≡ b → cond (not b) (Err BadSetting) (cond full (Err WatchesFull) (Ok hub.next)) ≡ Ok id → (0 < capacity) × (id ≡ hub.next)
    go true false between same =
        let least = leb-true 1 capacity (and_parts (nat_le 1 capacity) (nat_le capacity RING_MOST) between).0 in
        (omega (arith, least), cc)
    go true true between same = absurd cc
    go false full between same = absurd cc

-- ---- one by one through the watches

pub record IsLooking (watch : DirectoryWatch) (all rest : List DirectoryWatch) : Type 0 where
  pub back : Stands rest watch → Stands all watch
  pub only : Stands all watch → Stands rest watch

pub looking-begins : (watch : DirectoryWatch) (all rest : List DirectoryWatch) → rest ≡ all → IsLooking watch all rest
looking-begins watch all rest is =
    record { back = subst (λ (ws : List DirectoryWatch). Stands ws watch) is; only = subst (λ (ws : List DirectoryWatch). Stands ws watch) (sym is) }

pub looking-goes_on : (watch one : DirectoryWatch) (all rest : List DirectoryWatch) → IsLooking watch all (one ∷ rest) → one ≢ watch → IsLooking watch all rest
looking-goes_on watch one all rest is other = record { back = λ among. is.back (inr among); only = λ among. go (is.only among) }
  where
    go : (one ≡ watch) ⊎ Stands rest watch → Stands rest watch
    go (inl same) = absurd (other same)
    go (inr among) = among

pub looking-finds : (watch one : DirectoryWatch) (all rest : List DirectoryWatch) → IsLooking watch all (one ∷ rest) → one ≡ watch → Stands all watch
looking-finds watch one all rest is same = is.back (inl same)

pub looking-ends : (watch : DirectoryWatch) (all rest : List DirectoryWatch) → rest ≡ [] → IsLooking watch all rest → Stands all watch → ⊥
looking-ends watch all rest done is among = subst (λ (ws : List DirectoryWatch). Stands ws watch) done (is.only among)

-- ---- what a call answers of a watch that is there, and of one that is not

pub note-there : (opening : Node) (history : List Event) (hub : Hub) (watch : DirectoryWatch) (is : IsWatched opening history hub watch) → has_note_at hub watch.id ≡ Ok (not (owes_nothing is.kept))
note-there opening history hub watch is = ap note_if_found is.found

pub answer-there : (opening : Node) (history : List Event) (hub : Hub) (watch : DirectoryWatch) (is : IsWatched opening history hub watch) → answer_at hub watch.id ≡ Ok (answer_of is.kept)
answer-there opening history hub watch is = ap answer_if_found is.found

pub no-note : (hub : Hub) (id : ℕ) → IfErr (has_note_at hub id) (λ fault. ◌≡◌ {A = Result Bool Fault} (Err NoWatch) (Err fault))
no-note hub id = go (watch_at hub id)
  where
    go : (found : Option Watch) → IfErr (note_if_found found) (λ fault. ◌≡◌ {A = Result Bool Fault} (Err NoWatch) (Err fault))
    go None = refl
    go (Some w) = tt

pub no-answer : (hub : Hub) (id : ℕ) → IfErr (answer_at hub id) (λ fault. ◌≡◌ {A = Result Polled Fault} (Err NoWatch) (Err fault))
no-answer hub id = go (watch_at hub id)
  where
    go : (found : Option Watch) → IfErr (answer_if_found found) (λ fault. ◌≡◌ {A = Result Polled Fault} (Err NoWatch) (Err fault))
    go None = refl
    go (Some w) = tt

-- what a node has for a watch of its own, and what it answers
module _ (opening : Node) (history : List Event) (hub : Hub) (watch : DirectoryWatch) (is : IsWatched opening history hub watch) where
  pub owed-says : (answer : Result Bool Fault) → answer ≡ has_note_at hub watch.id → IfOk answer (SaysOf opening history watch)
  owed-says answer same = subst (λ (r : Result Bool Fault). IfOk r (SaysOf opening history watch)) (sym (same ∙ note-there opening history hub watch is)) is.says

  pub owed-ok : (answer : Result Bool Fault) → answer ≡ has_note_at hub watch.id → IsOk answer
  owed-ok answer same = ap is_ok (same ∙ note-there opening history hub watch is)

  pub answer-says : (answer : Result Polled Fault) → answer ≡ answer_at hub watch.id → IfOk answer (λ polled. SaysOf opening history watch (reports polled))
  answer-says answer same =
      subst (λ (r : Result Polled Fault). IfOk r (λ polled. SaysOf opening history watch (reports polled))) (sym (same ∙ answer-there opening history hub watch is))
      (subst (SaysOf opening history watch) (sym (reports-owed is.kept)) is.says)

  pub answer-ok : (answer : Result Polled Fault) → answer ≡ answer_at hub watch.id → IsOk answer
  answer-ok answer same = ap is_ok (same ∙ answer-there opening history hub watch is)

module _ (opening : Node) (history : List Event) (hub : Hub) (watches : List DirectoryWatch) (all : AllByRecursion (IsWatched opening history hub) watches) where
  pub found-note : (watch : DirectoryWatch) (b : Bool) → MatchBool b (Stands watches watch) (Stands watches watch → ⊥) → b ≡ true → IsOk (has_note_at hub watch.id)
  found-note watch true found there = owed-ok opening history hub watch (one-watched opening history hub watches watch all found) (has_note_at hub watch.id) refl
  found-note watch false found there = absurd (true≢false (sym there))

  pub found-answer : (watch : DirectoryWatch) (b : Bool) → MatchBool b (Stands watches watch) (Stands watches watch → ⊥) → b ≡ true → IsOk (answer_at hub watch.id)
  found-answer watch true found there = answer-ok opening history hub watch (one-watched opening history hub watches watch all found) (answer_at hub watch.id) refl
  found-answer watch false found there = absurd (true≢false (sym there))

-- what is not refused
module _ {X : Type 0} where
  pub on-err : (answer : Result X Fault) (P : Type 0) → IsOk answer → OnErr answer P
  on-err (Ok x) P ok = tt
  on-err (Err fault) P ok = absurd (true≢false (sym ok))

  pub if-err : (answer : Result X Fault) (P : Fault → Type 0) → IsOk answer → IfErr answer P
  if-err (Ok x) P ok = tt
  if-err (Err fault) P ok = absurd (true≢false (sym ok))

  pub never-err : (answer : Result X Fault) (fault : Fault) (P : Type 0) → IsOk answer → answer ≡ Err fault → P
  never-err answer fault P ok is = absurd (true≢false (sym ok ∙ ap is_ok is))

  pub on-ok : (answer : Result X Fault) (P : Type 0) → P → OnOk answer P
  on-ok (Ok x) P holds = holds
  on-ok (Err fault) P holds = tt

  pub if-ok : (answer : Result X Fault) (P Q : X → Type 0) → ((x : X) → P x → Q x) → IfOk answer P → IfOk answer Q
  if-ok (Ok x) P Q on p = on x p
  if-ok (Err fault) P Q on p = tt
