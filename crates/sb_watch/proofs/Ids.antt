-- Watches with ascending ids: each id once, and what the calls leave of that.
use Rattle.std.proofs.Common.{◌≡◌, ℕ, zero, suc, ◌+◌, ◌<◌, ◌≤◌, Bool, true, false, not, cond, List, [], ◌∷◌, ◌++◌, length, get_or, map, filter, position, Some, None, Ok, Err, set, refl, sym, ap, ap₂, subst, ◌∙◌, arith, nat_le, true≢false}
use Rattle.std.specs.List.{list_any, remove}
use Rattle.std.proofs.lemmas.Bool.{cond-true, cond-false, and_parts, and_from, or_from, leb-true, le-leb, eqb-true, ne_eqb, false_from_ne_true, not_from_true, not_from_false}
use Rattle.std.proofs.lemmas.List.{map-append, length-append}
use Rattle.std.proofs.lemmas.List.Quantifiers.{position-Some}
use Rattle.sb_types.specs.declared.fault.Fault.TheVariants.{NoWatch}
use Rattle.sb_watch.specs.declared.limits.TheConstants.{WATCHES_MOST}
use Rattle.sb_watch.specs.declared.note.Note.{Note}
use Rattle.sb_watch.specs.Records.{Watch, Hub}
use Rattle.sb_watch.specs.Watches.{matches, with_note, watch_after_note, owes_nothing, answer_of, watch_after_answer}
use Rattle.sb_watch.specs.Hubs.{is_id, id_of, are_ids, IsHub, with_push, with_answer, answer_if_found, answer_at, note_if_found, has_note_at, without_watch}
use Rattle.sb_watch.proofs.Places.{change, none_placed, none_found, none_changed, none_dropped, found_at, any_at}

ids_bound : (least next : ℕ) (ids : List ℕ) → are_ids least next ids ≡ true → least ≤ next
ids_bound least next [] up = leb-true least next up
ids_bound least next (id ∷ ids) up =
    let parts = and_parts (nat_le least id) (are_ids (id + 1) next ids) up in
    let low = leb-true least id parts.0 in
    let rest = ids_bound (id + 1) next ids parts.1 in
    omega (arith, low, rest)

none_below : (id least next : ℕ) (ws : List Watch) → id < least → are_ids least next (map id_of ws) ≡ true → list_any (is_id id) ws ≡ false
none_below id least next [] less up = refl
none_below id least next (w ∷ ws) less up =
    let parts = and_parts (nat_le least w.id) (are_ids (w.id + 1) next (map id_of ws)) up in
    let low = leb-true least w.id parts.0 in
    or_from (is_id id w) (list_any (is_id id) ws) (ne_eqb w.id id (λ e. omega (arith, e, low, less))) (none_below id (w.id + 1) next ws (omega (arith, low, less)) parts.1)

-- no watch has the next id
pub none_at_next : (id least next : ℕ) (ws : List Watch) → next ≤ id → are_ids least next (map id_of ws) ≡ true → list_any (is_id id) ws ≡ false
none_at_next id least next [] above up = refl
none_at_next id least next (w ∷ ws) above up =
    let parts = and_parts (nat_le least w.id) (are_ids (w.id + 1) next (map id_of ws)) up in
    let bound = ids_bound (w.id + 1) next (map id_of ws) parts.1 in
    or_from (is_id id w) (list_any (is_id id) ws) (ne_eqb w.id id (λ e. omega (arith, e, bound, above))) (none_at_next id (w.id + 1) next ws above parts.1)

ids_more : (least next : ℕ) (ids : List ℕ) → are_ids least next ids ≡ true → are_ids least (next + 1) (ids ++ next ∷ []) ≡ true
ids_more least next [] up = and_from (nat_le least next) (nat_le (next + 1) (next + 1)) up (le-leb (next + 1) (next + 1) (omega arith))
ids_more least next (id ∷ ids) up =
    let parts = and_parts (nat_le least id) (are_ids (id + 1) next ids) up in
    and_from (nat_le least id) (are_ids (id + 1) (next + 1) (ids ++ next ∷ [])) parts.0 (ids_more (id + 1) next ids parts.1)

ids_from_lower : (low least next : ℕ) (ids : List ℕ) → low ≤ least → are_ids least next ids ≡ true → are_ids low next ids ≡ true
ids_from_lower low least next [] less up = let bound = leb-true least next up in le-leb low next (omega (arith, bound, less))
ids_from_lower low least next (id ∷ ids) less up =
    let parts = and_parts (nat_le least id) (are_ids (id + 1) next ids) up in
    let bound = leb-true least id parts.0 in
    and_from (nat_le low id) (are_ids (id + 1) next ids) (le-leb low id (omega (arith, bound, less))) parts.1

ids_filtered : (q : Watch → Bool) (least next : ℕ) (ws : List Watch) → are_ids least next (map id_of ws) ≡ true → are_ids least next (map id_of (filter q ws)) ≡ true
ids_filtered q least next [] up = up
ids_filtered q least next (w ∷ ws) up =
    let parts = and_parts (nat_le least w.id) (are_ids (w.id + 1) next (map id_of ws)) up in
    go (q w) parts.0 (ids_filtered q (w.id + 1) next ws parts.1)
  where
    go : (b : Bool) → nat_le least w.id ≡ true → are_ids (w.id + 1) next (map id_of (filter q ws)) ≡ true → are_ids least next (map id_of (cond b (w ∷ filter q ws) (filter q ws))) ≡ true
    go true low rest = and_from (nat_le least w.id) (are_ids (w.id + 1) next (map id_of (filter q ws))) low rest
    go false low rest = let bound = leb-true least w.id low in ids_from_lower least (w.id + 1) next (map id_of (filter q ws)) (omega (arith, bound)) rest

few_filtered : (q : Watch → Bool) (ws : List Watch) → length (filter q ws) ≤ length ws
few_filtered q [] = omega arith
few_filtered q (w ∷ ws) = go (q w) (few_filtered q ws)
  where
    go : (b : Bool) → length (filter q ws) ≤ length ws → length (cond b (w ∷ filter q ws) (filter q ws)) ≤ length (w ∷ ws)
    go true rest = omega (arith, rest)
    go false rest = omega (arith, rest)

-- the watch behind others has another id than they
other_before : (id least next : ℕ) (w : Watch) (ws : List Watch) (i : ℕ) (d : Watch) → are_ids least next (map id_of (w ∷ ws)) ≡ true → i < length ws → is_id id (get_or ws i d) ≡ true → is_id id w ≡ false
other_before id least next w ws i d up there passes =
    let parts = and_parts (nat_le least w.id) (are_ids (w.id + 1) next (map id_of ws)) up in
    false_from_ne_true (is_id id w) (λ same.
    let equal = eqb-true w.id id same in
    absurd (true≢false (sym (any_at (is_id id) ws i d there passes) ∙ none_below id (w.id + 1) next ws (omega (arith, equal)) parts.1)))

none_behind : (id least next : ℕ) (w : Watch) (ws : List Watch) → are_ids least next (map id_of (w ∷ ws)) ≡ true → is_id id w ≡ true → list_any (is_id id) ws ≡ false
none_behind id least next w ws up passes =
    let parts = and_parts (nat_le least w.id) (are_ids (w.id + 1) next (map id_of ws)) up in
    let equal = eqb-true w.id id passes in
    none_below id (w.id + 1) next ws (omega (arith, equal)) parts.1

-- the watch at the place is the only one with its id
pub changed_at : (f : Watch → Watch) (id least next : ℕ) (ws : List Watch) (i : ℕ) (d : Watch) → are_ids least next (map id_of ws) ≡ true → i < length ws → is_id id (get_or ws i d) ≡ true → set ws i (f (get_or ws i d)) ≡ map (change (is_id id) f) ws
changed_at f id least next [] i d up there passes = absurd (omega arith)
changed_at f id least next (w ∷ ws) zero d up there passes =
    ap₂ (λ (x : Watch) (xs : List Watch). x ∷ xs) (sym (cond-true (is_id id w) (f w) w passes)) (sym (none_changed (is_id id) f ws (none_behind id least next w ws up passes)))
changed_at f id least next (w ∷ ws) (suc i) d up there passes =
    let parts = and_parts (nat_le least w.id) (are_ids (w.id + 1) next (map id_of ws)) up in
    ap₂ (λ (x : Watch) (xs : List Watch). x ∷ xs)
    (sym (cond-false (is_id id w) (f w) w (other_before id least next w ws i d up (omega arith) passes)))
    (changed_at f id (w.id + 1) next ws i d parts.1 (omega arith) passes)

pub removed_at : (id least next : ℕ) (ws : List Watch) (i : ℕ) (d : Watch) → are_ids least next (map id_of ws) ≡ true → i < length ws → is_id id (get_or ws i d) ≡ true → remove ws i ≡ filter (λ w. not (is_id id w)) ws
removed_at id least next [] i d up there passes = absurd (omega arith)
removed_at id least next (w ∷ ws) zero d up there passes =
    sym (cond-false (not (is_id id w)) (w ∷ filter (λ v. not (is_id id v)) ws) (filter (λ v. not (is_id id v)) ws) (not_from_true (is_id id w) passes) ∙ none_dropped (is_id id) ws (none_behind id least next w ws up passes))
removed_at id least next (w ∷ ws) (suc i) d up there passes =
    let parts = and_parts (nat_le least w.id) (are_ids (w.id + 1) next (map id_of ws)) up in
    ap (λ (xs : List Watch). w ∷ xs) (removed_at id (w.id + 1) next ws i d parts.1 (omega arith) passes)
    ∙ sym (cond-true (not (is_id id w)) (w ∷ filter (λ v. not (is_id id v)) ws) (filter (λ v. not (is_id id v)) ws) (not_from_false (is_id id w) (other_before id least next w ws i d up (omega arith) passes)))

-- ---- what holds of every hub

same_ids : (f : Watch → Watch) → ((w : Watch) → (f w).id ≡ w.id) → (ws : List Watch) → map id_of (map f ws) ≡ map id_of ws
same_ids f same [] = refl
same_ids f same (w ∷ ws) = ap₂ (λ (x : ℕ) (xs : List ℕ). x ∷ xs) (same w) (same_ids f same ws)

pub same_length : (f : Watch → Watch) (ws : List Watch) → length (map f ws) ≡ length ws
same_length f [] = refl
same_length f (w ∷ ws) = ap (λ (n : ℕ). suc n) (same_length f ws)

hub_mapped : (f : Watch → Watch) (hub : Hub) → ((w : Watch) → (f w).id ≡ w.id) → IsHub hub → IsHub (record { watches = map f hub.watches; next = hub.next })
hub_mapped f hub same is = record {
  ids = subst (λ (ids : List ℕ). are_ids 0 hub.next ids ≡ true) (sym (same_ids f same hub.watches)) is.ids;
  few = let same = same_length f hub.watches in let few = is.few in omega (arith, same, few);
}

pub cond_id : (b : Bool) (v w : Watch) → v.id ≡ w.id → (cond b v w).id ≡ w.id
cond_id true v w same = same
cond_id false v w same = refl

pub hub_pushed : (hub : Hub) (note : Note) → IsHub hub → IsHub (with_push hub note)
hub_pushed hub note is = hub_mapped (watch_after_note note) hub (λ w. cond_id (matches w.filter note) (with_note w note) w refl) is

pub hub_answered : (hub : Hub) (id : ℕ) → IsHub hub → IsHub (with_answer hub id)
hub_answered hub id is = hub_mapped (change (is_id id) watch_after_answer) hub (λ w. cond_id (is_id id w) (watch_after_answer w) w refl) is

pub hub_without : (hub : Hub) (id : ℕ) → IsHub hub → IsHub (without_watch hub id)
hub_without hub id is = record {
  ids = ids_filtered (λ w. not (is_id id w)) 0 hub.next hub.watches is.ids;
  few = let fewer = few_filtered (λ w. not (is_id id w)) hub.watches in let few = is.few in omega (arith, fewer, few);
}

pub hub_with : (hub : Hub) (w : Watch) → w.id ≡ hub.next → length hub.watches < WATCHES_MOST → IsHub hub → IsHub (record { watches = hub.watches ++ w ∷ []; next = hub.next + 1 })
hub_with hub w next room is = record {
  ids = subst (λ (ids : List ℕ). are_ids 0 (hub.next + 1) ids ≡ true) (sym (map-append id_of hub.watches (w ∷ []) ∙ ap (λ (id : ℕ). map id_of hub.watches ++ id ∷ []) next)) (ids_more 0 hub.next (map id_of hub.watches) is.ids);
  few = let longer = length-append hub.watches (w ∷ []) in omega (arith, longer, room);
}

-- ---- the watch that is found, changed or taken out

abbrev pub hub_of : List Watch → ℕ → Hub
hub_of ws next = record { watches = ws; next = next }

pub taken_at : (hub : Hub) (id i : ℕ) (d new : Watch) → IsHub hub → position (is_id id) hub.watches ≡ Some i → new ≡ watch_after_answer (get_or hub.watches i d) → hub_of (set hub.watches i new) hub.next ≡ with_answer hub id
taken_at hub id i d new is at same =
    let place = position-Some (is_id id) hub.watches i d at in
    ap (λ (ws : List Watch). hub_of ws hub.next) (ap (set hub.watches i) same ∙ changed_at watch_after_answer id 0 hub.next hub.watches i d is.ids place.0 place.1)

pub dropped_at : (hub : Hub) (id i : ℕ) (d : Watch) → IsHub hub → position (is_id id) hub.watches ≡ Some i → hub_of (remove hub.watches i) hub.next ≡ without_watch hub id
dropped_at hub id i d is at =
    let place = position-Some (is_id id) hub.watches i d at in
    ap (λ (ws : List Watch). hub_of ws hub.next) (removed_at id 0 hub.next hub.watches i d is.ids place.0 place.1)

pub none_taken : (hub : Hub) (id : ℕ) → position (is_id id) hub.watches ≡ None → hub ≡ with_answer hub id
none_taken hub id at = ap (λ (ws : List Watch). hub_of ws hub.next) (sym (none_changed (is_id id) watch_after_answer hub.watches (none_placed (is_id id) hub.watches at)))

pub none_left_out : (hub : Hub) (id : ℕ) → position (is_id id) hub.watches ≡ None → hub ≡ without_watch hub id
none_left_out hub id at = ap (λ (ws : List Watch). hub_of ws hub.next) (sym (none_dropped (is_id id) hub.watches (none_placed (is_id id) hub.watches at)))

pub answer_found : (hub : Hub) (id i : ℕ) (d : Watch) → position (is_id id) hub.watches ≡ Some i → answer_at hub id ≡ Ok (answer_of (get_or hub.watches i d))
answer_found hub id i d at = ap answer_if_found (found_at (is_id id) hub.watches i d at)

pub answer_of_none : (hub : Hub) (id : ℕ) → position (is_id id) hub.watches ≡ None → answer_at hub id ≡ Err NoWatch
answer_of_none hub id at = ap answer_if_found (none_found (is_id id) hub.watches (none_placed (is_id id) hub.watches at))

pub note_found : (hub : Hub) (id i : ℕ) (d : Watch) → position (is_id id) hub.watches ≡ Some i → has_note_at hub id ≡ Ok (not (owes_nothing (get_or hub.watches i d)))
note_found hub id i d at = ap note_if_found (found_at (is_id id) hub.watches i d at)

pub note_of_none : (hub : Hub) (id : ℕ) → position (is_id id) hub.watches ≡ None → has_note_at hub id ≡ Err NoWatch
note_of_none hub id at = ap note_if_found (none_found (is_id id) hub.watches (none_placed (is_id id) hub.watches at))
