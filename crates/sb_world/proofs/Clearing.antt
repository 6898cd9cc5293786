-- Writes that lead on from any to a log of nothing: each value is removed, and then the log is purged.
use Rattle.std.proofs.Common.{◌≡◌, ℕ, zero, suc, ◌+◌, ◌-◌, ◌≤◌, Bool, true, false, not, ◌&&◌, ◌||◌, cond, List, [], ◌∷◌, ◌++◌, filter, length, Ok, refl, sym, ap, ap₂, subst, ◌∙◌, arith, nat_eq, nat_lt, length-append, append-nil, append_assoc}
use Rattle.std.proofs.lemmas.Bool.{and_parts, cond-false}
use Rattle.std.proofs.lemmas.Bool.Decides.{nat_tests}
use Rattle.std.proofs.lemmas.List.Elements.{filter-append, filter_agree}
use Rattle.std.specs.Cmp.Lexicographic.{pointwise}
use Rattle.sb_types.specs.declared.entry.Slot.TheVariants.{Removed}
use Rattle.sb_types.specs.declared.entry.Write.{Write}
use Rattle.sb_types.specs.declared.limits.TheConstants.{KEYS_MOST}
use Rattle.sb_types.specs.Records.{Entry, Table}
use Rattle.sb_types.specs.Runs.{are_ascending, entries_after, has_key, is_set, last_version, live_entries, entries_without_keys}
use Rattle.sb_types.proofs.Texts.{text_same}
use Rattle.sb_table.proofs.Merging.{length-filter_le}
use Rattle.sb_holdings.specs.Contents.{entry_of_write, entries_of_writes, last_each, content_table}
use Rattle.sb_holdings.proofs.Content.{content_is}
use Rattle.sb_holdings.proofs.Entering.{filter-filter}
use Rattle.sb_holdings.proofs.Growing.{content-grown_from, content-purged}
use Rattle.sb_log.specs.Records.{Log}
use Rattle.sb_log.specs.Puts.{Begins, nothing_up_to}
use Rattle.sb_log.proofs.Beginning.{last_least}

-- the entries that have a value
values : List Entry → List Entry
values es = filter (λ e. is_set e.slot) es

values-live : (floor : ℕ) (es : List Entry) → values (live_entries floor es) ≡ values es
unfolding values
values-live floor [] = refl
values-live floor (x ∷ xs) = grind (arith, values-live floor xs)

-- of entries up to a floor only those with a value are live
live-values : (floor last : ℕ) (es : List Entry) → are_ascending last es ≡ true → last_version last es ≤ floor → live_entries floor es ≡ values es
unfolding values
live-values floor last [] up most = refl
live-values floor last (x ∷ xs) up most =
    let parts = and_parts (nat_lt last x.version) (are_ascending x.version xs) up in
    let least = last_least x.version xs parts.1 in
    let rest = live-values floor x.version xs parts.1 most in
    grind (arith, nat_tests)

-- ---- one removal

abbrev left : List Write → List Entry
left writes = values (content_table 0 writes).entries

and-swapped : (a b : Bool) → (a && b) ≡ (b && a)
and-swapped true true = refl
and-swapped true false = refl
and-swapped false true = refl
and-swapped false false = refl

values-without : (others es : List Entry) → values (entries_without_keys others es) ≡ entries_without_keys others (values es)
unfolding values
values-without others es =
    filter-filter (λ x. is_set x.slot) (λ x. not (has_key x.key others)) es
    ∙ filter_agree (λ x. not (has_key x.key others) && is_set x.slot) (λ x. is_set x.slot && not (has_key x.key others)) (λ x. and-swapped (not (has_key x.key others)) (is_set x.slot)) es
    ∙ sym (filter-filter (λ x. not (has_key x.key others)) (λ x. is_set x.slot) es)

-- the key of the first, or any where there is none
key_in : List Entry → List ℕ
key_in [] = 0 ∷ []
key_in (e ∷ es) = e.key

removal : List Entry → Write
removal es = record { key = key_in es; slot = Removed }

module _ (writes : List Write) where
  abbrev entry : Entry
  entry = entry_of_write (length writes + 1) (removal (left writes))

  left-next : left (writes ++ removal (left writes) ∷ []) ≡ entries_without_keys (entry ∷ []) (left writes)
  unfolding values removal
  left-next =
      ap (λ (t : Table). values t.entries) (content-grown_from writes (removal (left writes)) 0 (omega arith))
      ∙ filter-append (λ e. is_set e.slot) (entries_without_keys (entry ∷ []) (content_table 0 writes).entries) (entry ∷ [])
      ∙ append-nil (values (entries_without_keys (entry ∷ []) (content_table 0 writes).entries))
      ∙ values-without (entry ∷ []) (content_table 0 writes).entries

shorter : (n v : ℕ) (es : List Entry) → length es ≤ suc n → length (entries_without_keys (entry_of_write v (removal es) ∷ []) es) ≤ n
unfolding removal key_in
shorter n v [] most = omega arith
shorter n v (x ∷ xs) most =
    let w = entry_of_write v (removal (x ∷ xs)) in
    let same : has_key x.key (w ∷ []) ≡ true = ap (λ (b : Bool). b || false) (text_same x.key x.key refl) in
    let first : entries_without_keys (w ∷ []) (x ∷ xs) ≡ entries_without_keys (w ∷ []) xs = ap (λ (b : Bool). cond (not b) (x ∷ entries_without_keys (w ∷ []) xs) (entries_without_keys (w ∷ []) xs)) same in
    omega (arith, ap length first, length-filter_le (λ e. not (has_key e.key (w ∷ []))) xs, most)

-- ---- so often

clearing : (n : ℕ) (writes : List Write) → length (left writes) ≤ n → (more : List Write) × (length more ≡ n) × (left (writes ++ more) ≡ [])
clearing zero writes most = ([], refl, ap left (append-nil writes) ∙ none (left writes) most)
  where
    none : (es : List Entry) → length es ≤ 0 → es ≡ []
    none [] le = refl
    none (x ∷ xs) le = absurd (omega (arith, le))
clearing (suc n) writes most =
    let w = removal (left writes) in
    let fewer : length (left (writes ++ w ∷ [])) ≤ n = omega (arith, ap length (left-next writes), shorter n (length writes + 1) (left writes) most) in
    let rest = clearing n (writes ++ w ∷ []) fewer in
    (w ∷ rest.0, ap suc rest.1, ap left (sym (append_assoc writes (w ∷ []) rest.0)) ∙ rest.2)

module _ (writes : List Write) (after : ℕ) (all : length writes ≡ after) (none : left writes ≡ []) where
  content-cleared : content_table after writes ≡ nothing_up_to after
  content-cleared =
      let run = (content_is writes 0 (omega arith)).run in
      let entries : (content_table after writes).entries ≡ [] =
      ap (λ (t : Table). t.entries) (content-purged writes 0 after (omega arith))
      ∙ live-values after 0 (content_table 0 writes).entries run.ascending (omega (arith, run.most, all)) ∙ none in
      λ i. record { held = all i; floor = after; entries = entries i }

cleared : (writes : List Write) (floor after : ℕ) → length (content_table floor writes).entries ≤ KEYS_MOST → length writes + KEYS_MOST ≤ after
    → (more : List Write) × (content_table after (writes ++ more) ≡ nothing_up_to after)
unfolding values
cleared writes floor after limit reach =
    let es = last_each (entries_of_writes 0 writes) in
    let same : left writes ≡ values (live_entries floor es) = values-live 0 es ∙ sym (values-live floor es) in
    let few : length (left writes) ≤ after - length writes = omega (arith, ap length same, length-filter_le (λ e. is_set e.slot) (live_entries floor es), limit, reach) in
    let more = clearing (after - length writes) writes few in
    (more.0, content-cleared (writes ++ more.0) after (omega (arith, length-append writes more.0, more.1, reach)) more.2)

pub goes_on : (old new : Log) (after : ℕ) → Begins old after (Ok tt) new → new.is_clean ≡ true → (writes : List Write) (floor : ℕ) → length (content_table floor writes).entries ≤ KEYS_MOST
    → length writes + KEYS_MOST ≤ after → (more : List Write) × (new.content ≡ content_table after (writes ++ more))
goes_on old new after begins clean writes floor limit reach =
    let more = cleared writes floor after limit reach in
    (more.0, begins.done.content clean ∙ sym more.1)
