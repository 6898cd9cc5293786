-- Entries of which no marker is at or below a floor.
use Rattle.std.proofs.Common.{◌≡◌, ℕ, suc, ◌≤◌, Bool, true, List, [], ◌∷◌, ◌++◌, ◌||◌, nat_lt, filter, refl, ap, ap₂, subst, ◌∙◌, arith, lt-ltb}
use Rattle.std.specs.List.{All}
use Rattle.std.proofs.lemmas.Bool.{and_parts, cond-true, or_right, ltb-true}
use Rattle.std.proofs.lemmas.List.Elements.{All-filter, filter-append, filter_passes}
use Rattle.sb_types.specs.Records.{Entry}
use Rattle.sb_types.specs.Runs.{are_ascending, entries_after, is_set, live_entries, entries_without_keys}

pub live-above : (floor last : ℕ) (es : List Entry) → floor ≤ last → are_ascending last es ≡ true → live_entries floor es ≡ es
live-above floor last [] le up = refl
live-above floor last (e ∷ es) le up =
    let parts = and_parts (nat_lt last e.version) (are_ascending e.version es) up in
    let later = ltb-true last e.version parts.0 in
    cond-true (is_set e.slot || nat_lt floor e.version) (e ∷ live_entries floor es) (live_entries floor es) (or_right (is_set e.slot) (nat_lt floor e.version) (lt-ltb floor e.version (omega (arith, later))))
    ∙ ap (λ (xs : List Entry). e ∷ xs) (live-above floor e.version es (omega (arith, later)) parts.1)

module _ {X : Type 0} (p : X → Bool) where
  all_kept : (xs : List X) → All (λ x. p x ≡ true) xs → filter p xs ≡ xs
  all_kept [] each = refl
  all_kept (x ∷ xs) each =
      cond-true (p x) (x ∷ filter p xs) (filter p xs) (each 0 x (omega arith))
      ∙ ap (λ (ys : List X). x ∷ ys) (all_kept xs (λ k d l. each (suc k) d (omega arith)))

  pub filter-twice : (xs : List X) → filter p (filter p xs) ≡ filter p xs
  filter-twice xs = all_kept (filter p xs) (filter_passes p xs)

  -- what is kept whole is kept whole when more is filtered out
  pub filter-less : (q : X → Bool) (xs : List X) → filter p xs ≡ xs → filter p (filter q xs) ≡ filter q xs
  filter-less q xs whole =
      all_kept (filter q xs) (All-filter q (λ x. p x ≡ true) xs (subst (λ (ys : List X). All (λ x. p x ≡ true) ys) whole (filter_passes p xs)))

pub live-live : (floor : ℕ) (es : List Entry) → live_entries floor (live_entries floor es) ≡ live_entries floor es
live-live floor es = filter-twice _ es

pub live-entered : (floor : ℕ) (es others : List Entry) → live_entries floor es ≡ es → live_entries floor others ≡ others → live_entries floor (entries_after es others) ≡ entries_after es others
live-entered floor es others old new =
    filter-append _ (entries_without_keys others es) others ∙ ap₂ (λ (xs ys : List Entry). xs ++ ys) (filter-less _ _ es old) new
