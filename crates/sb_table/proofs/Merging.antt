-- The entries of a stage and of what was shown, together: a run, and not too many.
use Rattle.std.proofs.Common.{◌≡◌, ℕ, ◌+◌, ◌≤◌, Bool, true, false, not, ◌||◌, List, [], ◌∷◌, ◌++◌, filter, length, Result, Ok, nat_eq, nat_lt, refl, sym, ap, subst, ◌∙◌, arith, length-append}
use Rattle.std.proofs.lemmas.Bool.{and_parts, not-true}
use Rattle.std.proofs.lemmas.Bool.Decides.{nat_tests}
use Rattle.std.proofs.lemmas.Cmp.{nat_list_eq_equiv}
use Rattle.std.proofs.lemmas.List.Elements.{filter-append}
use Rattle.std.specs.Cmp.Lexicographic.{pointwise, bytes_decides}
use Rattle.sb_types.specs.declared.limits.TheConstants.{KEYS_MOST}
use Rattle.sb_types.specs.Records.{Entry, Table}
use Rattle.sb_types.specs.Runs.{Stands, IsRun, newer_entries, entries_up_to, entries_with_keys, are_distinct, has_key, is_set, live_entries}
use Rattle.sb_types.proofs.Standing.{of_only, of_within, of_above}
use Rattle.sb_table.specs.Plain.{IsPlainTable, plain_table}
use Rattle.sb_table.specs.Floors.{is_dead, merged_entries}
use Rattle.sb_table.proofs.Copying.{IsCopying}
use Rattle.sb_table.proofs.Order.{run_one, run_kept, run_above, run_joined}

pub length-filter_le : (p : Entry → Bool) (es : List Entry) → length (filter p es) ≤ length es
length-filter_le p [] = omega arith
length-filter_le p (x ∷ xs) = grind (arith, length-filter_le p xs)

-- ---- of distinct entries no more stand under the keys of others than there are others

none_under : (key : List ℕ) (es : List Entry) → has_key key es ≡ false → filter (λ e. pointwise nat_eq key e.key) es ≡ []
none_under key [] none = refl
none_under key (x ∷ xs) none = grind (arith, nat_list_eq_equiv.symm x.key key, none_under key xs)

same_under : (a b : List ℕ) (es : List Entry) → pointwise nat_eq a b ≡ true → has_key b es ≡ false → has_key a es ≡ false
same_under a b es same none = subst (λ (k : List ℕ). has_key k es ≡ false) (sym ((bytes_decides a b).0 same)) none

one_under : (key : List ℕ) (es : List Entry) → are_distinct es ≡ true → length (filter (λ e. pointwise nat_eq key e.key) es) ≤ 1
one_under key [] apart = omega arith
one_under key (x ∷ xs) apart =
    let parts = and_parts (not (has_key x.key xs)) (are_distinct xs) apart in
    let none = not-true (has_key x.key xs) parts.0 in
    grind (arith, one_under key xs, same_under key x.key xs, none_under key xs)

either_under : (p q : Entry → Bool) (es : List Entry) → length (filter (λ e. p e || q e) es) ≤ length (filter p es) + length (filter q es)
either_under p q [] = omega arith
either_under p q (x ∷ xs) = grind (arith, either_under p q xs)

none_kept : (es : List Entry) → length (entries_with_keys [] es) ≤ 0
none_kept [] = omega arith
none_kept (x ∷ xs) = none_kept xs

pub length-under : (others es : List Entry) → are_distinct es ≡ true → length (entries_with_keys others es) ≤ length others
length-under [] es apart = none_kept es
length-under (o ∷ os) es apart =
    omega (arith, either_under (λ e. pointwise nat_eq o.key e.key) (λ e. has_key e.key os) es, one_under o.key es apart, length-under os es apart)

parted : (v : ℕ) (es : List Entry) → length (entries_up_to v es) + length (newer_entries v es) ≡ length es
parted v [] = refl
parted v (x ∷ xs) = grind (arith, nat_tests, parted v xs)

-- ---- both together

module _ {held progress : ℕ} {shown staged : List Entry} (r : IsRun 0 held shown) (q : IsRun 0 progress staged) where
  merged_run : held ≤ progress → IsRun 0 progress (merged_entries held staged shown)
  merged_run l = run_joined (run_kept (λ entry. has_key entry.key (entries_up_to held staged)) r) (run_above held l q) apart
    where
      apart : (x y : Entry) → Stands (entries_with_keys (entries_up_to held staged) shown) x → Stands (newer_entries held staged) y → x.key ≡ y.key → ⊥
      apart x y s t k =
          let o = (of_only (entries_up_to held staged) shown x s).1 in
          let low = of_within held staged o.0 o.1 in
          let high = of_above held staged y t in
          omega (arith, low.1, high.1, ap (λ (e : Entry). e.version) (run_one o.0 y q low.0 high.0 (o.2 ∙ k)))

  pub length-merged : length (merged_entries held staged shown) ≤ length staged
  length-merged =
      omega (arith, length-append (entries_with_keys (entries_up_to held staged) shown) (newer_entries held staged), length-under (entries_up_to held staged) shown r.distinct, parted held staged)

  pub swapped_run : (floor : ℕ) → held ≤ progress → IsRun 0 progress (live_entries floor (merged_entries held staged shown))
  swapped_run floor l = run_kept _ (merged_run l)

  pub length-swapped : (floor : ℕ) → length (live_entries floor (merged_entries held staged shown)) ≤ length staged
  length-swapped floor = omega (arith, length-filter_le (λ entry. is_set entry.slot || nat_lt floor entry.version) (merged_entries held staged shown), length-merged)

pub live-merged : (floor held : ℕ) (staged shown : List Entry)
    → live_entries floor (merged_entries held staged shown) ≡ live_entries floor (entries_with_keys (entries_up_to held staged) shown) ++ live_entries floor (newer_entries held staged)
live-merged floor held staged shown = filter-append _ (entries_with_keys (entries_up_to held staged) shown) (newer_entries held staged)

pub plain-run : {u : ℕ} {es : List Entry} → IsRun 0 u es → length es ≤ KEYS_MOST → IsPlainTable (plain_table es)
plain-run {u} {es} r l = record {
  run = record { ascending = r.ascending; most = omega arith; distinct = r.distinct };
  floor = refl;
  last = refl;
  limit = l;
}

-- ---- what is kept of the next entry

pub kept_shown : (floor : ℕ) (others : List Entry) (e : Entry) (rest : List Entry) → has_key e.key others ≡ true → is_dead floor e ≡ false
    → live_entries floor (entries_with_keys others (e ∷ rest)) ≡ e ∷ live_entries floor (entries_with_keys others rest)
kept_shown floor others e rest has lives = grind arith

pub left_shown : (floor : ℕ) (others : List Entry) (e : Entry) (rest : List Entry) → has_key e.key others ≡ false
    → live_entries floor (entries_with_keys others (e ∷ rest)) ≡ live_entries floor (entries_with_keys others rest)
left_shown floor others e rest lacks = grind arith

pub dead_shown : (floor : ℕ) (others : List Entry) (e : Entry) (rest : List Entry) → is_dead floor e ≡ true
    → live_entries floor (entries_with_keys others (e ∷ rest)) ≡ live_entries floor (entries_with_keys others rest)
dead_shown floor others e rest dead = grind arith

pub kept_staged : (floor : ℕ) (e : Entry) (rest : List Entry) → is_dead floor e ≡ false → live_entries floor (e ∷ rest) ≡ e ∷ live_entries floor rest
kept_staged floor e rest lives = grind arith

pub dead_staged : (floor : ℕ) (e : Entry) (rest : List Entry) → is_dead floor e ≡ true → live_entries floor (e ∷ rest) ≡ live_entries floor rest
dead_staged floor e rest dead = grind arith

pub same_ok : {X E : Type 0} {a b : X} → ◌≡◌ {A = Result X E} (Ok a) (Ok b) → a ≡ b
same_ok e = cc

pub copies : (t copy : Table) {old new : List Entry} → old ≡ new → IsCopying t copy old → IsCopying t copy new
copies t copy is copying = subst (IsCopying t copy) is copying
