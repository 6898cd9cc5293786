-- Entries entered into a table in turn.
use Rattle.std.proofs.Common.{◌≡◌, ℕ, zero, suc, ◌+◌, ◌≤◌, ◌<◌, true, false, List, [], ◌∷◌, ◌++◌, length, take, get_or, refl, sym, ap, subst, ◌∙◌, arith}
use Rattle.std.proofs.lemmas.Bool.{and_parts, ltb-true}
use Rattle.std.proofs.lemmas.List.{take_more}
use Rattle.sb_types.specs.declared.limits.TheConstants.{KEYS_MOST}
use Rattle.sb_types.specs.Records.{Entry, Table}
use Rattle.sb_types.specs.Runs.{are_ascending, are_distinct, entries_after, last_version}
use Rattle.sb_table.specs.Plain.{is_full_for, with_entry}
use Rattle.sb_table.proofs.Ascent.{last_version-push}
use Rattle.sb_table.proofs.Enter.{length-entered, length-entered_full}
use Rattle.sb_holdings.specs.Entering.{entries_after_each}
use Rattle.sb_holdings.specs.Plain.{with_entries}
use Rattle.sb_holdings.specs.Ends.{keys_with}
use Rattle.sb_holdings.proofs.Entering.{one_by_one}
use Rattle.sb_table.proofs.Order.{distinct_taken}

entered_each-push : (entries xs : List Entry) (e : Entry) → entries_after_each entries (xs ++ e ∷ []) ≡ entries_after (entries_after_each entries xs) (e ∷ [])
entered_each-push entries [] e = refl
entered_each-push entries (x ∷ xs) e = entered_each-push (entries_after entries (x ∷ [])) xs e

entered-push : (entries xs : List Entry) (e : Entry) → are_distinct xs ≡ true → are_distinct (xs ++ e ∷ []) ≡ true → entries_after (entries_after entries xs) (e ∷ []) ≡ entries_after entries (xs ++ e ∷ [])
entered-push entries xs e front apart =
    ap (λ (es : List Entry). entries_after es (e ∷ [])) (sym (one_by_one entries xs front)) ∙ sym (entered_each-push entries xs e) ∙ one_by_one entries (xs ++ e ∷ []) apart

pub with_entries-nil : (t : Table) → with_entries t [] ≡ t
with_entries-nil t = ap (λ (es : List Entry). let u : Table = record { held = t.held; floor = t.floor; entries = es } in u) (sym (one_by_one t.entries [] refl))

with_entries-push : (t : Table) (xs : List Entry) (e : Entry) → are_distinct xs ≡ true → are_distinct (xs ++ e ∷ []) ≡ true → with_entry (with_entries t xs) e ≡ with_entries t (xs ++ e ∷ [])
with_entries-push t xs e front apart = λ i. record { held = sym (last_version-push t.held xs e) i; floor = t.floor; entries = entered-push t.entries xs e front apart i }

later-more : (before : ℕ) (es : List Entry) (n : ℕ) (d : Entry) → are_ascending before es ≡ true → n < length es → last_version before (take n es) < (get_or es n d).version
later-more before [] n d up lt = absurd (omega arith)
later-more before (x ∷ xs) zero d up lt = ltb-true before x.version (and_parts _ _ up).0
later-more before (x ∷ xs) (suc n) d up lt = later-more x.version xs n d (and_parts _ _ up).1 (omega arith)

-- the table u is t with the first n entries entered, and x is the next
module _ (t u : Table) (es : List Entry) (n : ℕ) (x : Entry) (key : List ℕ) (at : u ≡ with_entries t (take n es)) (lt : n < length es) (is : x ≡ get_or es n x) (key_is : key ≡ x.key) where
  pub later-next : are_ascending t.held es ≡ true → u.held < x.version
  later-next up = omega (arith, later-more t.held es n x up lt, ap (λ (v : Table). v.held) at, ap (λ (e : Entry). e.version) is)

  pub with_entries-next : are_distinct es ≡ true → with_entry u x ≡ with_entries t (take (n + 1) es)
  with_entries-next apart =
      let more : take (n + 1) es ≡ take n es ++ x ∷ [] = take_more es n x lt ∙ ap (λ (e : Entry). take n es ++ e ∷ []) (sym is) in
      ap (λ (v : Table). with_entry v x) at
      ∙ with_entries-push t (take n es) x (distinct_taken n es apart) (subst (λ (xs : List Entry). are_distinct xs ≡ true) more (distinct_taken (n + 1) es apart))
      ∙ ap (with_entries t) (sym more)

  keys-next : are_distinct es ≡ true → length (entries_after u.entries (x ∷ [])) ≡ keys_with (n + 1) es t.entries
  keys-next apart = ap (λ (v : Table). length v.entries) (with_entries-next apart)

  pub keys-so_far : length u.entries ≤ KEYS_MOST → keys_with n es t.entries ≤ KEYS_MOST
  keys-so_far limit = omega (arith, limit, ap (λ (v : Table). length v.entries) at)

  pub keys-room : are_distinct es ≡ true → length u.entries ≤ KEYS_MOST → is_full_for key u.entries ≡ false → keys_with (n + 1) es t.entries ≤ KEYS_MOST
  keys-room apart limit room = omega (arith, length-entered x u.entries KEYS_MOST limit (ap (λ (k : List ℕ). is_full_for k u.entries) (sym key_is) ∙ room), keys-next apart)

  pub keys-full : are_distinct es ≡ true → is_full_for key u.entries ≡ true → KEYS_MOST < keys_with (n + 1) es t.entries
  keys-full apart full = omega (arith, length-entered_full x u.entries KEYS_MOST (ap (λ (k : List ℕ). is_full_for k u.entries) (sym key_is) ∙ full), keys-next apart)
