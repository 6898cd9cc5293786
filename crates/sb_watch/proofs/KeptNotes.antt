-- What holds of every note that is pushed holds of every note that is kept, and of every one that is handed out.
use Rattle.std.proofs.Common.{◌≡◌, ℕ, zero, suc, ◌-◌, ◌==◌, Bool, true, false, cond, List, [], ◌∷◌, ◌++◌, length, drop, map, filter, find, not, Option, Some, None, Ok, refl, subst}
use Rattle.std.proofs.lemmas.Option.{none-some}
use Rattle.std.specs.List.{AllByRecursion}
use Rattle.sb_watch.specs.declared.note.Filter.{Filter}
use Rattle.sb_watch.specs.declared.note.Note.{Note}
use Rattle.sb_watch.specs.declared.note.Polled.TheVariants as answers
use Rattle.sb_watch.specs.Records.{Watch, Hub}
use Rattle.sb_watch.specs.Watches.{matches, new_watch, with_note, watch_after_note, oldest_answer, watch_after_answer}
use Rattle.sb_watch.specs.Hubs.{is_id, watch_at, answer_if_found, answer_at, with_watch, with_push, with_answer, without_watch}

module _ {X : Type 0} (P : X → Type 0) where
  all_dropped : (n : ℕ) (xs : List X) → AllByRecursion P xs → AllByRecursion P (drop n xs)
  all_dropped zero xs all = all
  all_dropped (suc n) [] all = all
  all_dropped (suc n) (x ∷ xs) all = all_dropped n xs all.1

  all_with : (xs : List X) (x : X) → AllByRecursion P xs → P x → AllByRecursion P (xs ++ x ∷ [])
  all_with [] x all one = (one, tt)
  all_with (y ∷ ys) x all one = (all.0, all_with ys x all.1 one)

  all_mapped : (f : X → X) → ((x : X) → P x → P (f x)) → (xs : List X) → AllByRecursion P xs → AllByRecursion P (map f xs)
  all_mapped f keeps [] all = tt
  all_mapped f keeps (x ∷ xs) all = (keeps x all.0, all_mapped f keeps xs all.1)

  all_filtered : (q : X → Bool) (xs : List X) → AllByRecursion P xs → AllByRecursion P (filter q xs)
  all_filtered q [] all = tt
  all_filtered q (x ∷ xs) all = go (q x) (all_filtered q xs all.1)
    where
      go : (b : Bool) → AllByRecursion P (filter q xs) → AllByRecursion P (cond b (x ∷ filter q xs) (filter q xs))
      go true rest = (all.0, rest)
      go false rest = rest

  holds_of_found : (q : X → Bool) (xs : List X) (x : X) → AllByRecursion P xs → find q xs ≡ Some x → P x
  holds_of_found q [] x all found = absurd (none-some x found)
  holds_of_found q (y ∷ ys) x all found = go (q y) found (holds_of_found q ys x all.1)
    where
      go : (b : Bool) → cond b (Some y) (find q ys) ≡ Some x → (find q ys ≡ Some x → P x) → P x
      go true same rest = let equal : y ≡ x = cc in subst P equal all.0
      go false same rest = rest same

all_weaker : {X : Type 0} (P Q : X → Type 0) → ((x : X) → P x → Q x) → (xs : List X) → AllByRecursion P xs → AllByRecursion Q xs
all_weaker P Q less [] all = tt
all_weaker P Q less (x ∷ xs) all = (less x all.0, all_weaker P Q less xs all.1)

-- every note that is kept is as P says
abbrev pub AllAre : (Note → Type 0) → Hub → Type 0
AllAre P hub = AllByRecursion (λ (w : Watch). AllByRecursion P w.notes) hub.watches

module _ (P : Note → Type 0) where
  told_keeps : (note : Note) (w : Watch) → P note → AllByRecursion P w.notes → AllByRecursion P (watch_after_note note w).notes
  told_keeps note w one all = go (matches w.filter note)
    where
      go : (b : Bool) → AllByRecursion P (cond b (with_note w note) w).notes
      go true = all_dropped P (length (w.notes ++ note ∷ []) - w.capacity) (w.notes ++ note ∷ []) (all_with P w.notes note all one)
      go false = all

  answered_keeps : (w : Watch) → AllByRecursion P w.notes → AllByRecursion P (watch_after_answer w).notes
  answered_keeps w all = go (w.lost == 0)
    where
      go : (b : Bool) → AllByRecursion P (cond b (drop 1 w.notes) w.notes)
      go true = all_dropped P 1 w.notes all
      go false = all

  pub pushed_keeps : (hub : Hub) (note : Note) → AllAre P hub → P note → AllAre P (with_push hub note)
  pushed_keeps hub note all one = all_mapped (λ (w : Watch). AllByRecursion P w.notes) (watch_after_note note) (λ w. told_keeps note w one) hub.watches all

  pub taken_keeps : (hub : Hub) (id : ℕ) → AllAre P hub → AllAre P (with_answer hub id)
  taken_keeps hub id all = all_mapped (λ (w : Watch). AllByRecursion P w.notes) (λ (w : Watch). cond (is_id id w) (watch_after_answer w) w) (λ w. go w (is_id id w)) hub.watches all
    where
      go : (w : Watch) (b : Bool) → AllByRecursion P w.notes → AllByRecursion P (cond b (watch_after_answer w) w).notes
      go w true kept = answered_keeps w kept
      go w false kept = kept

  pub added_keeps : (hub : Hub) (filter : Filter) (capacity : ℕ) → AllAre P hub → AllAre P (with_watch hub filter capacity)
  added_keeps hub filter capacity all = all_with (λ (w : Watch). AllByRecursion P w.notes) hub.watches (new_watch hub.next filter capacity) all tt

  pub dropped_keeps : (hub : Hub) (id : ℕ) → AllAre P hub → AllAre P (without_watch hub id)
  dropped_keeps hub id all = all_filtered (λ (w : Watch). AllByRecursion P w.notes) (λ (w : Watch). not (is_id id w)) hub.watches all

  -- what is handed out was kept
  pub given_holds : (hub : Hub) (id : ℕ) (note : Note) → AllAre P hub → answer_at hub id ≡ Ok (answers.Note note) → P note
  given_holds hub id note all given = at (watch_at hub id) refl given
    where
      first : (notes : List Note) → AllByRecursion P notes → oldest_answer notes ≡ answers.Note note → P note
      first [] kept same = absurd cc
      first (next ∷ notes) kept same = let equal : next ≡ note = cc in subst P equal kept.0

      answer : (w : Watch) (b : Bool) → AllByRecursion P w.notes → cond b (oldest_answer w.notes) (answers.Lagged w.lost) ≡ answers.Note note → P note
      answer w true kept same = first w.notes kept same
      answer w false kept same = absurd cc

      at : (found : Option Watch) → watch_at hub id ≡ found → answer_if_found found ≡ Ok (answers.Note note) → P note
      at None found same = absurd cc
      at (Some w) found same = answer w (w.lost == 0) (holds_of_found (λ (v : Watch). AllByRecursion P v.notes) (is_id id) hub.watches w all found) cc

pub weaker_keeps : (P Q : Note → Type 0) (hub : Hub) → ((note : Note) → P note → Q note) → AllAre P hub → AllAre Q hub
weaker_keeps P Q hub less all = all_weaker (λ (w : Watch). AllByRecursion P w.notes) (λ (w : Watch). AllByRecursion Q w.notes) (λ w. all_weaker P Q less w.notes) hub.watches all
