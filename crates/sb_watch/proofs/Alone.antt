-- Each watch by itself: what a call makes of the watch with an id; and ids that no later watch has.
use Rattle.std.proofs.Common.{◌≡◌, ◌≢◌, ℕ, ◌<◌, ◌==◌, Bool, true, false, not, cond, List, [], ◌∷◌, ◌++◌, map, filter, find, Option, Some, None, refl, sym, ap, ◌∙◌, arith, inl, inr}
use Rattle.std.specs.List.{list_any}
use Rattle.std.specs.Option.{option_map, option_or}
use Rattle.std.proofs.lemmas.Bool.{cond-true, cond-false, eqb-true, eq-eqb, ne_eqb, cases_Bool, or_parts, or_from, not_from_true, not_from_false}
use Rattle.std.proofs.lemmas.List.Folds.{find-append}
use Rattle.sb_watch.specs.declared.note.Filter.{Filter}
use Rattle.sb_watch.specs.declared.note.Note.{Note}
use Rattle.sb_watch.specs.Records.{Watch, Hub}
use Rattle.sb_watch.specs.Watches.{matches, new_watch, with_note, watch_after_note, watch_after_answer}
use Rattle.sb_watch.specs.Hubs.{is_id, IsHub, has_watch, watch_at, with_watch, with_push, with_answer, without_watch}
use Rattle.sb_watch.specs.Calls.{Call, adds, pushes, takes, drops, hub_after}
use Rattle.sb_watch.proofs.Places.{change, none_found}
use Rattle.sb_watch.proofs.Ids.{cond_id, none_at_next}

find_mapped : (f g : Watch → Watch) (id : ℕ) → ((w : Watch) → (f w).id ≡ w.id) → ((w : Watch) → is_id id w ≡ true → f w ≡ g w) → (ws : List Watch) → find (is_id id) (map f ws) ≡ option_map g (find (is_id id) ws)
find_mapped f g id same agree [] = refl
find_mapped f g id same agree (w ∷ ws) = elim (cases_Bool (is_id id w)) [
  | inl there ↦
      cond-true (is_id id (f w)) (Some (f w)) (find (is_id id) (map f ws)) (ap (λ (k : ℕ). k == id) (same w) ∙ there)
      ∙ ap (λ (v : Watch). Some v) (agree w there)
      ∙ sym (ap (option_map g) (cond-true (is_id id w) (Some w) (find (is_id id) ws) there))
  | inr behind ↦
      cond-false (is_id id (f w)) (Some (f w)) (find (is_id id) (map f ws)) (ap (λ (k : ℕ). k == id) (same w) ∙ behind)
      ∙ find_mapped f g id same agree ws
      ∙ sym (ap (option_map g) (cond-false (is_id id w) (Some w) (find (is_id id) ws) behind))
]

told_id : (note : Note) (w : Watch) → (watch_after_note note w).id ≡ w.id
told_id note w = cond_id (matches w.filter note) (with_note w note) w refl

changed_id : (id : ℕ) (w : Watch) → (change (is_id id) watch_after_answer w).id ≡ w.id
changed_id id w = cond_id (is_id id w) (watch_after_answer w) w refl

same_option : (o : Option Watch) → option_map (λ (w : Watch). w) o ≡ o
same_option None = refl
same_option (Some w) = refl

or_none : (o : Option Watch) → option_or o None ≡ o
or_none None = refl
or_none (Some w) = refl

other_id : (id other : ℕ) (w : Watch) → other ≢ id → is_id other w ≡ true → is_id id w ≡ false
other_id id other w apart there = ne_eqb w.id id (λ same. apart (sym (eqb-true w.id other there) ∙ same))

pub pushed_at : (hub : Hub) (note : Note) (id : ℕ) → watch_at (with_push hub note) id ≡ option_map (watch_after_note note) (watch_at hub id)
pushed_at hub note id = find_mapped (watch_after_note note) (watch_after_note note) id (told_id note) (λ w there. refl) hub.watches

pub answered_at : (hub : Hub) (id : ℕ) → watch_at (with_answer hub id) id ≡ option_map watch_after_answer (watch_at hub id)
answered_at hub id = find_mapped (change (is_id id) watch_after_answer) watch_after_answer id (changed_id id) (λ w there. cond-true (is_id id w) (watch_after_answer w) w there) hub.watches

pub others_unasked : (hub : Hub) (id other : ℕ) → other ≢ id → watch_at (with_answer hub id) other ≡ watch_at hub other
others_unasked hub id other apart =
    find_mapped (change (is_id id) watch_after_answer) (λ w. w) other (changed_id id) (λ w there. cond-false (is_id id w) (watch_after_answer w) w (other_id id other w apart there)) hub.watches
    ∙ same_option (watch_at hub other)

pub added_at : (hub : Hub) (filter : Filter) (capacity : ℕ) → IsHub hub → watch_at (with_watch hub filter capacity) hub.next ≡ Some (new_watch hub.next filter capacity)
added_at hub filter capacity is =
    find-append (is_id hub.next) hub.watches (new_watch hub.next filter capacity ∷ [])
    ∙ ap (λ (o : Option Watch). option_or o (find (is_id hub.next) (new_watch hub.next filter capacity ∷ []))) (none_found (is_id hub.next) hub.watches (none_at_next hub.next 0 hub.next hub.watches (omega arith) is.ids))
    ∙ cond-true (hub.next == hub.next) (Some (new_watch hub.next filter capacity)) None (eq-eqb hub.next hub.next refl)

pub beside_added : (hub : Hub) (filter : Filter) (capacity other : ℕ) → other ≢ hub.next → watch_at (with_watch hub filter capacity) other ≡ watch_at hub other
beside_added hub filter capacity other apart =
    find-append (is_id other) hub.watches (new_watch hub.next filter capacity ∷ [])
    ∙ ap (option_or (watch_at hub other)) (cond-false (hub.next == other) (Some (new_watch hub.next filter capacity)) None (ne_eqb hub.next other (λ same. apart (sym same))))
    ∙ or_none (watch_at hub other)

none_after_drop : (id : ℕ) (ws : List Watch) → find (is_id id) (filter (λ (w : Watch). not (is_id id w)) ws) ≡ None
none_after_drop id [] = refl
none_after_drop id (w ∷ ws) =
    let rest = filter (λ (v : Watch). not (is_id id v)) ws in
    elim (cases_Bool (is_id id w)) [
      | inl there ↦ ap (find (is_id id)) (cond-false (not (is_id id w)) (w ∷ rest) rest (not_from_true (is_id id w) there)) ∙ none_after_drop id ws
      | inr behind ↦
          ap (find (is_id id)) (cond-true (not (is_id id w)) (w ∷ rest) rest (not_from_false (is_id id w) behind))
          ∙ cond-false (is_id id w) (Some w) (find (is_id id) rest) behind ∙ none_after_drop id ws
    ]

pub dropped_away : (hub : Hub) (id : ℕ) → watch_at (without_watch hub id) id ≡ None
dropped_away hub id = none_after_drop id hub.watches

others_after_drop : (id other : ℕ) → other ≢ id → (ws : List Watch) → find (is_id other) (filter (λ (w : Watch). not (is_id id w)) ws) ≡ find (is_id other) ws
others_after_drop id other apart [] = refl
others_after_drop id other apart (w ∷ ws) =
    let rest = filter (λ (v : Watch). not (is_id id v)) ws in
    elim (cases_Bool (is_id id w)) [
      | inl there ↦
          ap (find (is_id other)) (cond-false (not (is_id id w)) (w ∷ rest) rest (not_from_true (is_id id w) there))
          ∙ others_after_drop id other apart ws
          ∙ sym (cond-false (is_id other w) (Some w) (find (is_id other) ws) (other_id other id w (λ same. apart (sym same)) there))
      | inr behind ↦
          ap (find (is_id other)) (cond-true (not (is_id id w)) (w ∷ rest) rest (not_from_false (is_id id w) behind))
          ∙ ap (cond (is_id other w) (Some w)) (others_after_drop id other apart ws)
    ]

pub others_left : (hub : Hub) (id other : ℕ) → other ≢ id → watch_at (without_watch hub id) other ≡ watch_at hub other
others_left hub id other apart = others_after_drop id other apart hub.watches

-- ---- ids

none_mapped : (f : Watch → Watch) → ((w : Watch) → (f w).id ≡ w.id) → (id : ℕ) (ws : List Watch) → list_any (is_id id) ws ≡ false → list_any (is_id id) (map f ws) ≡ false
none_mapped f same id [] none = refl
none_mapped f same id (w ∷ ws) none =
    let parts = or_parts (is_id id w) (list_any (is_id id) ws) none in
    or_from (is_id id (f w)) (list_any (is_id id) (map f ws)) (ap (λ (k : ℕ). k == id) (same w) ∙ parts.0) (none_mapped f same id ws parts.1)

none_filtered : (q : Watch → Bool) (id : ℕ) (ws : List Watch) → list_any (is_id id) ws ≡ false → list_any (is_id id) (filter q ws) ≡ false
none_filtered q id [] none = refl
none_filtered q id (w ∷ ws) none = go (q w) (or_parts (is_id id w) (list_any (is_id id) ws) none).0 (none_filtered q id ws (or_parts (is_id id w) (list_any (is_id id) ws) none).1)
  where
    go : (b : Bool) → is_id id w ≡ false → list_any (is_id id) (filter q ws) ≡ false → list_any (is_id id) (cond b (w ∷ filter q ws) (filter q ws)) ≡ false
    go true other rest = or_from (is_id id w) (list_any (is_id id) (filter q ws)) other rest
    go false other rest = rest

none_with : (id : ℕ) (w : Watch) (ws : List Watch) → is_id id w ≡ false → list_any (is_id id) ws ≡ false → list_any (is_id id) (ws ++ w ∷ []) ≡ false
none_with id w [] other none = or_from (is_id id w) false other refl
none_with id w (v ∷ ws) other none =
    let parts = or_parts (is_id id v) (list_any (is_id id) ws) none in
    or_from (is_id id v) (list_any (is_id id) (ws ++ w ∷ [])) parts.0 (none_with id w ws other parts.1)

pub gone_for_good : (calls : List Call) (hub : Hub) (id : ℕ) → id < hub.next → has_watch hub id ≡ false → has_watch (hub_after calls hub) id ≡ false
gone_for_good [] hub id used none = none
gone_for_good (adds filter capacity ∷ calls) hub id used none =
    gone_for_good calls (with_watch hub filter capacity) id (omega (arith, used)) (none_with id (new_watch hub.next filter capacity) hub.watches (ne_eqb hub.next id (λ same. omega (arith, same, used))) none)
gone_for_good (pushes note ∷ calls) hub id used none = gone_for_good calls (with_push hub note) id used (none_mapped (watch_after_note note) (told_id note) id hub.watches none)
gone_for_good (takes at ∷ calls) hub id used none = gone_for_good calls (with_answer hub at) id used (none_mapped (change (is_id at) watch_after_answer) (changed_id at) id hub.watches none)
gone_for_good (drops at ∷ calls) hub id used none = gone_for_good calls (without_watch hub at) id used (none_filtered (λ w. not (is_id at w)) id hub.watches none)
