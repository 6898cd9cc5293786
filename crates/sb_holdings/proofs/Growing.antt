-- What a log has once one more was written.
use Rattle.std.proofs.Common.{◌≡◌, ℕ, zero, suc, ◌+◌, ◌-◌, ◌≤◌, Bool, true, false, not, ◌&&◌, ◌||◌, ⊎_elim, List, [], ◌∷◌, ◌++◌, length, refl, sym, ap, ap₂, ◌∙◌, Some, slice_get, arith, length-append, nat_eq, nat_lt, lt-ltb, ltb-true}
use Rattle.std.proofs.lemmas.Bool.{and_from, or_left, or_right, or_cases}
use Rattle.std.proofs.lemmas.List.Elements.{filter-append, filter_agree}
use Rattle.std.proofs.lemmas.Cmp.{nat_list_eq_equiv}
use Rattle.std.proofs.lemmas.List.Folds.{list_any-append}
use Rattle.std.specs.Cmp.Lexicographic.{pointwise}
use Rattle.sb_types.specs.declared.entry.Write.{Write}
use Rattle.sb_types.specs.Records.{Entry}
use Rattle.sb_types.specs.Runs.{entries_without_keys, has_key, is_set, entries_after, live_entries}
use Rattle.sb_types.specs.Writes.{Written}
use Rattle.sb_table.specs.Plain.{with_entry}
use Rattle.sb_table.specs.Floors.{table_at_floor}
use Rattle.sb_holdings.specs.Contents.{entry_of_write, entries_of_writes, last_each, content_table}
use Rattle.sb_holdings.proofs.Entering.{filter-filter}
use Rattle.sb_types.proofs.Live.{live-above}

numbered-push : (v n : ℕ) (ws : List Write) (w : Write) → n ≡ v + length ws + 1 → entries_of_writes v (ws ++ w ∷ []) ≡ entries_of_writes v ws ++ entry_of_write n w ∷ []
numbered-push v n [] w is =
    let same : v + 1 ≡ n = omega (arith, is) in
    ap (λ k. entry_of_write k w ∷ []) same
numbered-push v n (x ∷ xs) w is = ap (λ es. entry_of_write (v + 1) x ∷ es) (numbered-push (v + 1) n xs w (omega (arith, is)))

last_each-push : (es : List Entry) (e : Entry) → last_each (es ++ e ∷ []) ≡ entries_without_keys (e ∷ []) (last_each es) ++ e ∷ []
last_each-push [] e = refl
last_each-push (x ∷ xs) e =
    grind (arith, last_each-push xs e, list_any-append (λ y. pointwise nat_eq y.key x.key) xs (e ∷ []), nat_list_eq_equiv.symm e.key x.key)

-- ---- markers up to a floor

and-swapped : (a b : Bool) → (a && b) ≡ (b && a)
and-swapped true true = refl
and-swapped true false = refl
and-swapped false true = refl
and-swapped false false = refl

live-without : (floor : ℕ) (others es : List Entry) → live_entries floor (entries_without_keys others es) ≡ entries_without_keys others (live_entries floor es)
live-without floor others es =
    filter-filter (λ x. is_set x.slot || nat_lt floor x.version) (λ x. not (has_key x.key others)) es
    ∙ filter_agree (λ x. not (has_key x.key others) && (is_set x.slot || nat_lt floor x.version)) (λ x. (is_set x.slot || nat_lt floor x.version) && not (has_key x.key others))
    (λ x. and-swapped (not (has_key x.key others)) (is_set x.slot || nat_lt floor x.version)) es
    ∙ sym (filter-filter (λ x. not (has_key x.key others)) (λ x. is_set x.slot || nat_lt floor x.version) es)

one-lives : (floor held : ℕ) (e : Entry) → floor ≤ held → e.version ≡ held + 1 → live_entries floor (e ∷ []) ≡ e ∷ []
one-lives floor held e low next = live-above floor held (e ∷ []) low (and_from _ _ (lt-ltb held e.version (omega (arith, next))) refl)

stronger : (a b : Bool) → (b ≡ true → a ≡ true) → (a && b) ≡ b
stronger true b there = refl
stronger false true there = there refl
stronger false false there = refl

lives-lower : (floor more : ℕ) (x : Entry) → floor ≤ more → (is_set x.slot || nat_lt more x.version) ≡ true → (is_set x.slot || nat_lt floor x.version) ≡ true
lives-lower floor more x low lives =
    ⊎_elim (λ set. or_left (is_set x.slot) (nat_lt floor x.version) set)
    (λ later. or_right (is_set x.slot) (nat_lt floor x.version) (lt-ltb floor x.version (omega (arith, low, ltb-true more x.version later))))
    (or_cases (is_set x.slot) (nat_lt more x.version) lives)

live-higher : (floor more : ℕ) (es : List Entry) → floor ≤ more → live_entries more (live_entries floor es) ≡ live_entries more es
live-higher floor more es low =
    filter-filter (λ x. is_set x.slot || nat_lt more x.version) (λ x. is_set x.slot || nat_lt floor x.version) es
    ∙ filter_agree (λ x. (is_set x.slot || nat_lt floor x.version) && (is_set x.slot || nat_lt more x.version)) (λ x. is_set x.slot || nat_lt more x.version)
    (λ x. stronger (is_set x.slot || nat_lt floor x.version) (is_set x.slot || nat_lt more x.version) (lives-lower floor more x low)) es

-- ---- one write more

slice_get-end : {X : Type 0} (xs : List X) (x : X) (k : ℕ) → k ≡ length xs → slice_get (xs ++ x ∷ []) k ≡ Some x
slice_get-end [] x zero is = refl
slice_get-end [] x (suc k) is = absurd (omega (arith, is))
slice_get-end (y ∷ ys) x zero is = absurd (omega (arith, is))
slice_get-end (y ∷ ys) x (suc k) is = slice_get-end ys x k (omega (arith, is))

module _ (writes : List Write) (w : Write) where
  abbrev e : Entry
  e = entry_of_write (length writes + 1) w

  entries-grown : (floor : ℕ) → floor ≤ length writes → live_entries floor (last_each (entries_of_writes 0 (writes ++ w ∷ []))) ≡ entries_after (live_entries floor (last_each (entries_of_writes 0 writes))) (e ∷ [])
  entries-grown floor low =
      ap (λ (es : List Entry). live_entries floor (last_each es)) (numbered-push 0 (length writes + 1) writes w (omega arith))
      ∙ ap (live_entries floor) (last_each-push (entries_of_writes 0 writes) e)
      ∙ filter-append (λ x. is_set x.slot || nat_lt floor x.version) (entries_without_keys (e ∷ []) (last_each (entries_of_writes 0 writes))) (e ∷ [])
      ∙ ap₂ (λ (xs ys : List Entry). xs ++ ys) (live-without floor (e ∷ []) (last_each (entries_of_writes 0 writes))) (one-lives floor (length writes) e low refl)

  pub content-grown_from : (floor : ℕ) → floor ≤ length writes → content_table floor (writes ++ w ∷ []) ≡ with_entry (content_table floor writes) e
  content-grown_from floor low =
      let held : length (writes ++ w ∷ []) ≡ length writes + 1 = length-append writes (w ∷ []) in
      λ i. record { held = held i; floor = floor; entries = entries-grown floor low i }

  pub content-grown : content_table 0 (writes ++ w ∷ []) ≡ with_entry (content_table 0 writes) e
  content-grown = content-grown_from 0 (omega arith)

  pub written-grown : Written (writes ++ w ∷ []) e
  written-grown = record {
    counted = omega arith;
    found = slice_get-end writes w (length writes + 1 - 1) (omega arith);
  }

-- ---- a higher floor

pub content-purged : (writes : List Write) (floor more : ℕ) → floor ≤ more → content_table more writes ≡ table_at_floor (length writes) more (content_table floor writes)
content-purged writes floor more low = λ i. record { held = length writes; floor = more; entries = sym (live-higher floor more (last_each (entries_of_writes 0 writes)) low) i }
