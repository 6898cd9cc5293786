-- A watch keeps the last of what it owes, and its answers account for the others.
use Rattle.std.proofs.Common.{◌≡◌, ℕ, ◌+◌, ◌-◌, ◌^◌, ◌<◌, ◌≤◌, Bool, true, false, cond, min, List, [], ◌∷◌, ◌++◌, length, drop, refl, sym, ap, subst, ◌∙◌, arith, length-append, length-drop, append_assoc, nat_lt, ◌==◌, inl, inr}
use Rattle.std.proofs.lemmas.Bool.{cond-true, cond-false, cases_lt, cases_eq, lt-ltb, le-ltb, eqb-true, eqb-false}
use Rattle.std.proofs.lemmas.List.{append-nil, drop-append-le, drop-drop}
use Rattle.circular_buffer.specs.Buffer.{keep_last}
use Rattle.sb_watch.specs.declared.note.Note.{Note}
use Rattle.sb_watch.specs.declared.note.Filter.{Filter}
use Rattle.sb_watch.specs.declared.note.Polled.TheVariants as answers
use Rattle.sb_watch.specs.Records.{Watch}
use Rattle.sb_watch.specs.Watches.{matches, new_watch, with_note, oldest_answer}
use Rattle.sb_watch.specs.Owed.{Deed, comes, asked, watch_after, answers_after, matching_notes, Account, Keeps}

-- to keep the last of what was kept with one more is to keep the last of all
keep_last-more : (n : ℕ) (xs : List Note) (x : Note) → keep_last n (keep_last n xs ++ x ∷ []) ≡ keep_last n (xs ++ x ∷ [])
keep_last-more n xs x =
    let d = length xs - n in
    let left = length-drop d xs in
    let long = length-append xs (x ∷ []) in
    let long-left = length-append (drop d xs) (x ∷ []) in
    let whole : d + (length (drop d xs ++ x ∷ []) - n) ≡ length (xs ++ x ∷ []) - n = omega (arith, left, long, long-left) in
    ap (λ (ys : List Note). drop (length (drop d xs ++ x ∷ []) - n) ys) (sym (drop-append-le d xs (x ∷ []) (omega arith)))
    ∙ drop-drop (length (drop d xs ++ x ∷ []) - n) d (xs ++ x ∷ [])
    ∙ ap (λ (k : ℕ). drop k (xs ++ x ∷ [])) whole

keep_last-all : (n : ℕ) (xs : List Note) → length xs ≤ n → keep_last n xs ≡ xs
keep_last-all n xs fits = let none : length xs - n ≡ 0 = omega arith in ap (λ (k : ℕ). drop k xs) none

-- a note that the watch is for is owed too
keeps_one_more : (w : Watch) (owed : List Note) (note : Note) → length owed + 1 < 2 ^ 64 → Keeps w owed → Keeps (with_note w note) (owed ++ note ∷ [])
keeps_one_more w owed note few keeps = record {
  notes = ap (λ (ns : List Note). keep_last w.capacity (ns ++ note ∷ [])) keeps.notes ∙ keep_last-more w.capacity owed note;
  lost = lost;
}
  where
    kept : length w.notes ≡ length owed - (length owed - w.capacity)
    kept = ap length keeps.notes ∙ length-drop (length owed - w.capacity) owed

    long : length (owed ++ note ∷ []) ≡ length owed + 1
    long = length-append owed (note ∷ [])

    lost : (with_note w note).lost ≡ length (owed ++ note ∷ []) - w.capacity
    lost = elim (cases_lt (length w.notes) w.capacity) [
      | inl less ↦ cond-true (nat_lt (length w.notes) w.capacity) w.lost (min (2 ^ 64 - 1) (w.lost + 1)) (lt-ltb (length w.notes) w.capacity less) ∙ (let lost = keeps.lost in omega (arith, lost, kept, long, less))
      | inr full ↦ cond-false (nat_lt (length w.notes) w.capacity) w.lost (min (2 ^ 64 - 1) (w.lost + 1)) (le-ltb (length w.notes) w.capacity full) ∙ (let lost = keeps.lost in omega (arith, lost, kept, long, full, few))
    ]

abbrev pub Follows : Watch → List Note → List Deed → Type 0
Follows w owed deeds = (left : List Note) × Account (answers_after deeds w) (owed ++ matching_notes w.filter deeds) left × Keeps (watch_after deeds w) left

abbrev FollowsAll : List Deed → Type 0
FollowsAll deeds = (w : Watch) (owed : List Note) → length (owed ++ matching_notes w.filter deeds) < 2 ^ 64 → Keeps w owed → Follows w owed deeds

-- a note comes, and matches or not
follows_note : (deeds : List Deed) (w : Watch) (owed : List Note) (note : Note) (b : Bool) → length (owed ++ cond b (note ∷ matching_notes w.filter deeds) (matching_notes w.filter deeds)) < 2 ^ 64 → Keeps w owed → FollowsAll deeds → (left : List Note) × Account (answers_after deeds (cond b (with_note w note) w)) (owed ++ cond b (note ∷ matching_notes w.filter deeds) (matching_notes w.filter deeds)) left × Keeps (watch_after deeds (cond b (with_note w note) w)) left
follows_note deeds w owed note true few keeps rest =
    let joined = append_assoc owed (note ∷ []) (matching_notes w.filter deeds) in
    let long = length-append owed (note ∷ matching_notes w.filter deeds) in
    let on = rest (with_note w note) (owed ++ note ∷ []) (subst (λ (ns : List Note). length ns < 2 ^ 64) (sym joined) few) (keeps_one_more w owed note (omega (arith, long, few)) keeps) in
    (on.0, subst (λ (ns : List Note). Account (answers_after deeds (with_note w note)) ns on.0) joined on.1, on.2)
follows_note deeds w owed note false few keeps rest = rest w owed few keeps

-- the watch with these notes, of which it was told how many were lost
abbrev caught_up : Watch → List Note → Watch
caught_up w notes = record { id = w.id; filter = w.filter; capacity = w.capacity; notes = notes; lost = 0 }

-- it is asked and has lost none: the oldest note that is owed, if any
follows_oldest : (deeds : List Deed) (w : Watch) (owed : List Note) → length owed ≤ w.capacity → length (owed ++ matching_notes w.filter deeds) < 2 ^ 64 → FollowsAll deeds → (left : List Note) × Account (oldest_answer owed ∷ answers_after deeds (caught_up w (drop 1 owed))) (owed ++ matching_notes w.filter deeds) left × Keeps (watch_after deeds (caught_up w (drop 1 owed))) left
follows_oldest deeds w [] fits few rest = rest (caught_up w []) [] few (record { notes = sym (keep_last-all w.capacity [] fits); lost = omega arith })
follows_oldest deeds w (note ∷ owed) fits few rest =
    let on = rest (caught_up w owed) owed (omega (arith, few)) (record { notes = sym (keep_last-all w.capacity owed (omega (arith, fits))); lost = omega (arith, fits) }) in
    (on.0, (refl, on.1), on.2)

-- it is asked and has lost some: how many, and what is owed from then on is what it has
follows_lost : (deeds : List Deed) (w : Watch) (owed : List Note) → 0 < w.lost → length (owed ++ matching_notes w.filter deeds) < 2 ^ 64 → Keeps w owed → FollowsAll deeds → (left : List Note) × Account (answers.Lagged w.lost ∷ answers_after deeds (caught_up w w.notes)) (owed ++ matching_notes w.filter deeds) left × Keeps (watch_after deeds (caught_up w w.notes)) left
follows_lost deeds w owed some few keeps rest =
    let lost = keeps.lost in
    let left = length-drop w.lost owed in
    let joined = drop-append-le w.lost owed (matching_notes w.filter deeds) (omega (arith, lost)) in
    let long = length-append owed (matching_notes w.filter deeds) in
    let less = length-append (drop w.lost owed) (matching_notes w.filter deeds) in
    let same : w.notes ≡ drop w.lost owed = keeps.notes ∙ ap (λ (k : ℕ). drop k owed) (sym lost) in
    let on = rest (caught_up w w.notes) (drop w.lost owed) (omega (arith, few, long, less, left)) (record { notes = same ∙ sym (keep_last-all w.capacity (drop w.lost owed) (omega (arith, left, lost))); lost = omega (arith, left, lost) }) in
    (on.0, (some, omega (arith, lost, long), subst (λ (ns : List Note). Account (answers_after deeds (caught_up w w.notes)) ns on.0) (sym joined) on.1), on.2)

follows_asked : (deeds : List Deed) (w : Watch) (owed : List Note) (b : Bool) → (w.lost == 0) ≡ b → length (owed ++ matching_notes w.filter deeds) < 2 ^ 64 → Keeps w owed → FollowsAll deeds → (left : List Note) × Account (cond b (oldest_answer w.notes) (answers.Lagged w.lost) ∷ answers_after deeds (caught_up w (cond b (drop 1 w.notes) w.notes))) (owed ++ matching_notes w.filter deeds) left × Keeps (watch_after deeds (caught_up w (cond b (drop 1 w.notes) w.notes))) left
follows_asked deeds w owed true none few keeps rest =
    let zero = eqb-true w.lost 0 none in
    let lost = keeps.lost in
    let fits : length owed ≤ w.capacity = omega (arith, zero, lost) in
    subst (λ (ns : List Note). (left : List Note) × Account (oldest_answer ns ∷ answers_after deeds (caught_up w (drop 1 ns))) (owed ++ matching_notes w.filter deeds) left × Keeps (watch_after deeds (caught_up w (drop 1 ns))) left)
    (sym (keeps.notes ∙ keep_last-all w.capacity owed fits))
    (follows_oldest deeds w owed fits few rest)
follows_asked deeds w owed false some few keeps rest =
    let other = eqb-false w.lost 0 some in
    follows_lost deeds w owed (elim (cases_eq w.lost 0) [ inl zero ↦ absurd (other zero) | inr apart ↦ omega (arith, apart) ]) few keeps rest

follows : (deeds : List Deed) → FollowsAll deeds
follows [] w owed few keeps = (owed, append-nil owed, keeps)
follows (comes note ∷ deeds) w owed few keeps = follows_note deeds w owed note (matches w.filter note) few keeps (λ v more few keeps. follows deeds v more few keeps)
follows (asked ∷ deeds) w owed few keeps = follows_asked deeds w owed (w.lost == 0) refl few keeps (λ v more few keeps. follows deeds v more few keeps)

pub new_watches_follow : (id capacity : ℕ) (filter : Filter) (deeds : List Deed) → length (matching_notes filter deeds) < 2 ^ 64 → Follows (new_watch id filter capacity) [] deeds
new_watches_follow id capacity filter deeds few = follows deeds (new_watch id filter capacity) [] few (record { notes = sym (keep_last-all capacity [] (omega arith)); lost = omega arith })
