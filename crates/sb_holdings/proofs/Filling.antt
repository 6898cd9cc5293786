-- Writes that lead to a table: each entry is written as often as versions are missing before it.
use Rattle.std.proofs.Common.{◌≡◌, ℕ, zero, suc, ◌+◌, ◌-◌, ◌<◌, ◌≤◌, true, false, ◌||◌, ◌⊎◌, inl, inr, ⊎_elim, List, [], ◌∷◌, ◌++◌, length, refl, sym, ap, ap₂, subst, ◌∙◌, arith, nat_eq, nat_lt, ltb-true, length-append, append-nil}
use Rattle.std.proofs.lemmas.Bool.{and_parts, or_cases, or_left, or_right, cond-true, cond-false, not-true, false_from_ne_true, false≢true, le-ltb}
use Rattle.std.proofs.lemmas.List.Elements.{filter-append}
use Rattle.std.specs.Cmp.Lexicographic.{pointwise}
use Rattle.sb_types.specs.declared.entry.Slot.TheVariants.{Removed}
use Rattle.sb_types.specs.declared.entry.Write.{Write}
use Rattle.sb_types.specs.Records.{Entry, Table}
use Rattle.sb_types.specs.Runs.{Stands, are_ascending, are_distinct, has_key, is_set, last_version, live_entries}
use Rattle.sb_table.specs.Plain.{IsPlainTable}
use Rattle.sb_table.specs.Contents.{IsContent}
use Rattle.sb_holdings.specs.Contents.{entry_of_write, entries_of_writes, last_each, content_table}
use Rattle.sb_types.proofs.Texts.{same_text, text_same}
use Rattle.sb_holdings.proofs.Numbered.{write_in}
use Rattle.sb_types.proofs.Live.{live-above}

-- the write so often, and then these
copies : ℕ → Write → List Write → List Write
copies zero w ws = ws
copies (suc n) w ws = w ∷ copies n w ws

-- the writes of the entries behind a version, and behind them others
filled : List Write → ℕ → List Entry → List Write
filled more last [] = more
filled more last (e ∷ es) = copies (e.version - last) (write_in e) (filled more e.version es)

-- ---- lengths

length-copies : (n : ℕ) (w : Write) (ws : List Write) → length (copies n w ws) ≡ n + length ws
unfolding copies
length-copies zero w ws = omega arith
length-copies (suc n) w ws = omega (arith, length-copies n w ws)

length-filled : (more : List Write) (last : ℕ) (es : List Entry) → are_ascending last es ≡ true → last + length (filled more last es) ≡ last_version last es + length more
unfolding filled
length-filled more last [] up = omega arith
length-filled more last (e ∷ es) up =
    let parts = and_parts (nat_lt last e.version) (are_ascending e.version es) up in
    omega (arith, ltb-true last e.version parts.0, length-copies (e.version - last) (write_in e) (filled more e.version es), length-filled more e.version es parts.1)

-- ---- keys

keys-copies : (key : List ℕ) (n v u : ℕ) (w : Write) (ws : List Write) → u ≡ v + n → has_key key (entries_of_writes v (copies n w ws)) ≡ true →
    (pointwise nat_eq w.key key ≡ true) ⊎ (has_key key (entries_of_writes u ws) ≡ true)
unfolding copies
keys-copies key zero v u w ws is has =
    let same : v ≡ u = omega (arith, is) in
    inr (subst (λ (m : ℕ). has_key key (entries_of_writes m ws) ≡ true) same has)
keys-copies key (suc n) v u w ws is has =
    ⊎_elim inl (λ rest. keys-copies key n (v + 1) u w ws (omega (arith, is)) rest)
    (or_cases (pointwise nat_eq w.key key) (has_key key (entries_of_writes (v + 1) (copies n w ws))) has)

keys-filled : (key : List ℕ) (more : List Write) (last : ℕ) (es : List Entry) → are_ascending last es ≡ true → has_key key (entries_of_writes last (filled more last es)) ≡ true →
    (has_key key es ≡ true) ⊎ (has_key key (entries_of_writes (last_version last es) more) ≡ true)
unfolding filled
keys-filled key more last [] up has = inr has
keys-filled key more last (e ∷ es) up has =
    let parts = and_parts (nat_lt last e.version) (are_ascending e.version es) up in
    ⊎_elim
    (λ same. inl (or_left (pointwise nat_eq e.key key) (has_key key es) same))
    (λ rest. ⊎_elim (λ there. inl (or_right (pointwise nat_eq e.key key) (has_key key es) there)) inr (keys-filled key more e.version es parts.1 rest))
    (keys-copies key (e.version - last) last e.version (write_in e) (filled more e.version es) (omega (arith, ltb-true last e.version parts.0)) has)

-- ---- the last of each key

last-copies : (n v u : ℕ) (w : Write) (ws : List Write) → u ≡ v + n + 1 → has_key w.key (entries_of_writes u ws) ≡ false →
    last_each (entries_of_writes v (copies (suc n) w ws)) ≡ entry_of_write u w ∷ last_each (entries_of_writes u ws)
unfolding copies
last-copies zero v u w ws is new =
    let same : u ≡ v + 1 = omega (arith, is) in
    subst (λ (m : ℕ). last_each (entry_of_write m w ∷ entries_of_writes m ws) ≡ entry_of_write u w ∷ last_each (entries_of_writes u ws)) same
    (cond-false (has_key w.key (entries_of_writes u ws)) (last_each (entries_of_writes u ws)) (entry_of_write u w ∷ last_each (entries_of_writes u ws)) new)
last-copies (suc n) v u w ws is new =
    let rest = entries_of_writes (v + 1) (copies (suc n) w ws) in
    cond-true (has_key w.key rest) (last_each rest) (entry_of_write (v + 1) w ∷ last_each rest) (or_left _ _ (text_same w.key w.key refl))
    ∙ last-copies n (v + 1) u w ws (omega (arith, is)) new

-- none of these entries' keys is written again behind them
abbrev AreFresh : List Write → ℕ → List Entry → Type 0
AreFresh more last es = (e : Entry) → Stands es e → has_key e.key (entries_of_writes (last_version last es) more) ≡ false

last-filled : (more : List Write) (last : ℕ) (es : List Entry) → are_ascending last es ≡ true → are_distinct es ≡ true → AreFresh more last es →
    last_each (entries_of_writes last (filled more last es)) ≡ es ++ last_each (entries_of_writes (last_version last es) more)
unfolding filled
last-filled more last [] up apart fresh = refl
last-filled more last (e ∷ es) up apart fresh =
    let parts = and_parts (nat_lt last e.version) (are_ascending e.version es) up in
    let later = ltb-true last e.version parts.0 in
    let keys = and_parts _ _ apart in
    let count : e.version - last ≡ suc (e.version - last - 1) = omega (arith, later) in
    let rest = filled more e.version es in
    let new : has_key e.key (entries_of_writes e.version rest) ≡ false = false_from_ne_true _ (λ has. ⊎_elim
    (λ there. false≢true (sym (not-true (has_key e.key es) keys.0) ∙ there))
    (λ behind. false≢true (sym (fresh e (inl refl)) ∙ behind))
    (keys-filled e.key more e.version es parts.1 has)) in
    ap (λ (n : ℕ). last_each (entries_of_writes last (copies n (write_in e) rest))) count
    ∙ last-copies (e.version - last - 1) last e.version (write_in e) rest (omega (arith, later)) new
    ∙ ap (λ (xs : List Entry). e ∷ xs) (last-filled more e.version es parts.1 keys.1 (λ x stands. fresh x (inr stands)))

-- ---- a table without a floor

pub some_writes : (t : Table) → IsPlainTable t → (writes : List Write) × (content_table 0 writes ≡ t)
some_writes t plain =
    let up = plain.run.ascending in
    let held : length (filled [] 0 t.entries) ≡ t.held = omega (arith, length-filled [] 0 t.entries up, plain.last) in
    let last = last-filled [] 0 t.entries up plain.run.distinct (λ e stands. refl) ∙ append-nil t.entries in
    let entries : live_entries 0 (last_each (entries_of_writes 0 (filled [] 0 t.entries))) ≡ t.entries = ap (live_entries 0) last ∙ live-above 0 0 t.entries (omega arith) up in
    (filled [] 0 t.entries, λ i. record { held = held i; floor = sym plain.floor i; entries = entries i })

-- ---- a table with a floor: behind its last entry a key that stands nowhere is removed

-- a key that is longer than all of these entries'
longer : List Entry → List ℕ
longer [] = 0 ∷ []
longer (e ∷ es) = e.key ++ longer es

longer-some : (es : List Entry) → 0 < length (longer es)
unfolding longer
longer-some [] = omega arith
longer-some (e ∷ es) = omega (arith, longer-some es, length-append e.key (longer es))

longer-each : (es : List Entry) (e : Entry) → Stands es e → length e.key < length (longer es)
unfolding longer
longer-each [] e stands = absurd stands
longer-each (x ∷ xs) e (inl same) = omega (arith, longer-some xs, length-append x.key (longer xs), ap (λ (y : Entry). length y.key) same)
longer-each (x ∷ xs) e (inr stands) = omega (arith, longer-each xs e stands, length-append x.key (longer xs))

removal : List Entry → Write
removal es = record { key = longer es; slot = Removed }

module _ (t : Table) (is : IsContent t) where
  abbrev last : ℕ
  last = last_version 0 t.entries

  abbrev more : List Write
  more = copies (t.held - last) (removal t.entries) []

  fresh : AreFresh more 0 t.entries
  unfolding removal
  fresh e stands = false_from_ne_true _ (λ has. ⊎_elim
      (λ same. omega (arith, longer-each t.entries e stands, ap length (same_text (longer t.entries) e.key same)))
      (λ none. false≢true none)
      (keys-copies e.key (t.held - last) last t.held (removal t.entries) [] (omega (arith, is.table.is.run.most)) has))

  gone-each : (n : ℕ) → t.held ≡ last + n → live_entries t.floor (last_each (entries_of_writes last (copies n (removal t.entries) []))) ≡ []
  unfolding copies removal
  gone-each zero reach = refl
  gone-each (suc n) reach =
      let under : t.held ≤ t.floor = omega (arith, is.held, reach) in
      ap (live_entries t.floor) (last-copies n last t.held (removal t.entries) [] (omega (arith, reach)) refl)
      ∙ cond-false (nat_lt t.floor t.held) (entry_of_write t.held (removal t.entries) ∷ []) [] (le-ltb t.floor t.held under)

  pub table_writes : (writes : List Write) × (content_table t.floor writes ≡ t)
  table_writes =
      let up = is.table.is.run.ascending in
      let reach : t.held ≡ last + (t.held - last) = omega (arith, is.table.is.run.most) in
      let held : length (filled more 0 t.entries) ≡ t.held = omega (arith, length-filled more 0 t.entries up, length-copies (t.held - last) (removal t.entries) [], reach) in
      let entries : live_entries t.floor (last_each (entries_of_writes 0 (filled more 0 t.entries))) ≡ t.entries =
      ap (live_entries t.floor) (last-filled more 0 t.entries up is.table.is.run.distinct fresh)
      ∙ filter-append (λ x. is_set x.slot || nat_lt t.floor x.version) t.entries (last_each (entries_of_writes last more))
      ∙ ap₂ (λ (xs ys : List Entry). xs ++ ys) is.table.is.live (gone-each (t.held - last) reach) ∙ append-nil t.entries in
      (filled more 0 t.entries, λ i. record { held = held i; floor = t.floor; entries = entries i })
