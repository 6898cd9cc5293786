-- A purge of the own table: the tables grow, and what views show stays.
use Rattle.std.proofs.Common.{◌≡◌, ℕ, ◌<◌, Bool, true, false, cond, not, ◌&&◌, ◌||◌, nat_lt, nat_le, nat_eq, List, [], ◌∷◌, ◌⊎◌, inl, inr, Option, Some, None, unwrap_or, refl, sym, ap, subst, ◌∙◌, arith, ltb-true}
use Rattle.std.proofs.lemmas.Bool.{and_parts, cases_Bool, cond_both, cond-true, cond-false, or_parts, not-true, true≢false}
use Rattle.std.proofs.lemmas.Cmp.{nat_list_cmp_total}
use Rattle.std.specs.Cmp.Lexicographic.{pointwise}
use Rattle.std.specs.Ordering.{eq_by_cmp}
use Rattle.std.specs.FinMap.{get, get-insert}
use Rattle.sb_types.specs.declared.entry.Slot.{Slot}
use Rattle.sb_types.specs.declared.entry.Slot.TheVariants.{Set, Removed}
use Rattle.sb_types.specs.Records.{Entry, Table, Holder}
use Rattle.sb_types.specs.Runs.{has_key, are_distinct, is_set, live_entries, entry_at, shown_slot, shown_by_entry, shown_at}
use Rattle.sb_types.specs.Writes.{IsHolder}
use Rattle.sb_types.proofs.Texts.{same_text}
use Rattle.sb_table.specs.Floors.{table_at_floor}
use Rattle.sb_holdings.specs.Held.{Held, empty_holder, holder_of, shown_of, purged_own}
use Rattle.sb_holdings.specs.Plain.{IsHoldings}
use Rattle.sb_holdings.specs.Shown.{own_purged}
use Rattle.sb_holdings.proofs.Changed.{IsHolder-held}
use Rattle.sb_views.specs.Growing.{IsGrown, AreGrown}
use Rattle.sb_views.proofs.ByText.{by_text}
use Rattle.sb_views.proofs.Grown.{grown-self}
use Rattle.sb_views.proofs.Showing.{tied}

-- ---- what a reader is shown of a key

removed-shown : (version : ℕ) (slot : Slot) → is_set slot ≡ false → shown_slot version slot ≡ None
removed-shown version (Set value) is = absurd (true≢false is)
removed-shown version Removed is = refl

-- no entry of a key is left where there was none
none-live : (floor : ℕ) (key : List ℕ) (es : List Entry) → has_key key es ≡ false → entry_at key (live_entries floor es) ≡ None
none-live floor key [] none = refl
none-live floor key (e ∷ es) none =
    let parts = or_parts (pointwise nat_eq e.key key) (has_key key es) none in
    cond_both (is_set e.slot || nat_lt floor e.version) (e ∷ live_entries floor es) (live_entries floor es) (λ (xs : List Entry). entry_at key xs ≡ None)
    (λ _. cond-false (pointwise nat_eq e.key key) (Some e) (entry_at key (live_entries floor es)) parts.0 ∙ none-live floor key es parts.1)
    (λ _. none-live floor key es parts.1)

-- the first entry is that of the key, or is not
row-first : (floor : ℕ) (key : List ℕ) (e : Entry) (es : List Entry) → not (has_key e.key es) ≡ true → shown_at key (live_entries floor es) ≡ shown_at key es
    → ((pointwise nat_eq e.key key ≡ true) ⊎ (pointwise nat_eq e.key key ≡ false)) → shown_at key (live_entries floor (e ∷ es)) ≡ shown_at key (e ∷ es)
row-first floor key e es once rest (inl same) =
    let here : (xs : List Entry) → shown_at key (e ∷ xs) ≡ shown_slot e.version e.slot = λ xs. ap shown_by_entry (cond-true (pointwise nat_eq e.key key) (Some e) (entry_at key xs) same) in
    let alone : has_key key es ≡ false = ap (λ (k : List ℕ). has_key k es) (sym (same_text e.key key same)) ∙ not-true (has_key e.key es) once in
    cond_both (is_set e.slot || nat_lt floor e.version) (e ∷ live_entries floor es) (live_entries floor es) (λ (xs : List Entry). shown_at key xs ≡ shown_at key (e ∷ es))
    (λ _. here (live_entries floor es) ∙ sym (here es))
    (λ dead. ap shown_by_entry (none-live floor key es alone) ∙ sym (here es ∙ removed-shown e.version e.slot (or_parts (is_set e.slot) (nat_lt floor e.version) dead).0))
row-first floor key e es once rest (inr other) =
    let later : (xs : List Entry) → shown_at key (e ∷ xs) ≡ shown_at key xs = λ xs. ap shown_by_entry (cond-false (pointwise nat_eq e.key key) (Some e) (entry_at key xs) other) in
    cond_both (is_set e.slot || nat_lt floor e.version) (e ∷ live_entries floor es) (live_entries floor es) (λ (xs : List Entry). shown_at key xs ≡ shown_at key (e ∷ es))
    (λ _. later (live_entries floor es) ∙ rest ∙ sym (later es))
    (λ _. rest ∙ sym (later es))

pub row-live : (floor : ℕ) (key : List ℕ) (es : List Entry) → are_distinct es ≡ true → shown_at key (live_entries floor es) ≡ shown_at key es
row-live floor key [] distinct = refl
row-live floor key (e ∷ es) distinct =
    let parts = and_parts (not (has_key e.key es)) (are_distinct es) distinct in
    row-first floor key e es parts.0 (row-live floor key es parts.1) (cases_Bool (pointwise nat_eq e.key key))

-- ---- the own table

module _ (h : Holder) (floor : ℕ) where
  abbrev higher : Holder
  higher = record { shown = table_at_floor h.shown.held floor h.shown; stage = h.stage }

  abbrev is_higher : Bool
  is_higher = nat_lt h.shown.floor floor && nat_le floor h.shown.held

  held-stays : (own_purged floor h).shown.held ≡ h.shown.held
  held-stays = cond_both is_higher higher h (λ (k : Holder). k.shown.held ≡ h.shown.held) (λ _. refl) (λ _. refl)

  row-stays : (key : List ℕ) → IsHolder h → shown_at key (own_purged floor h).shown.entries ≡ shown_at key h.shown.entries
  row-stays key is = cond_both is_higher higher h (λ (k : Holder). shown_at key k.shown.entries ≡ shown_at key h.shown.entries) (λ _. row-live floor key h.shown.entries is.shown.run.distinct) (λ _. refl)

  purged-shown : IsHolder h → IsGrown h.shown (own_purged floor h).shown
  purged-shown is =
      cond_both is_higher higher h (λ (k : Holder). IsGrown h.shown k.shown)
      (λ more.
      let above : h.shown.floor < floor = ltb-true h.shown.floor floor (and_parts (nat_lt h.shown.floor floor) (nat_le floor h.shown.held) more).0 in
      record { held = omega arith; floor = omega (arith, above); grown = λ same. absurd (omega (arith, above, same)) })
      (λ _. grown-self h.shown is.shown)

-- ---- all owners

module _ (held : Held) (floor : ℕ) where
  abbrev mine : Holder
  mine = holder_of held.owners held.me

  shown-cond : (b : Bool) (o : Option Holder) → (unwrap_or (cond b (Some (own_purged floor mine)) o) empty_holder).shown ≡ cond b (own_purged floor mine).shown (unwrap_or o empty_holder).shown
  shown-cond true o = refl
  shown-cond false o = refl

  -- a purge changes no other owner
  shown-purged : (owner : List ℕ) → shown_of (purged_own held floor) owner ≡ cond (pointwise nat_eq held.me owner) (own_purged floor mine).shown (shown_of held owner)
  shown-purged owner =
      ap (λ (o : Option Holder). (unwrap_or o empty_holder).shown) (get-insert nat_list_cmp_total held.owners held.me (own_purged floor mine) owner)
      ∙ shown-cond (eq_by_cmp by_text owner held.me) (get held.owners owner)
      ∙ ap (λ (b : Bool). cond b (own_purged floor mine).shown (shown_of held owner)) (tied held.me owner)

  -- what holds of the own table once purged, and of each table as it is, holds of each
  by-owner : (P : Table → Table → Type 0) (owner : List ℕ) → P mine.shown (own_purged floor mine).shown → P (shown_of held owner) (shown_of held owner) → P (shown_of held owner) (shown_of (purged_own held floor) owner)
  by-owner P owner own same =
      subst (P (shown_of held owner)) (sym (shown-purged owner))
      (cond_both (pointwise nat_eq held.me owner) (own_purged floor mine).shown (shown_of held owner) (P (shown_of held owner))
      (λ this. subst (λ (n : List ℕ). P (shown_of held n) (own_purged floor mine).shown) (same_text held.me owner this) own)
      (λ _. same))

  pub purged-grown : IsHoldings held → AreGrown held (purged_own held floor)
  purged-grown is owner = by-owner IsGrown owner (purged-shown mine floor (IsHolder-held held is held.me)) (grown-self (shown_of held owner) (IsHolder-held held is owner).shown)

  pub purged-upto : (owner : List ℕ) → (shown_of (purged_own held floor) owner).held ≡ (shown_of held owner).held
  purged-upto owner = by-owner (λ t u. u.held ≡ t.held) owner (held-stays mine floor) refl

  pub purged-row : (owner key : List ℕ) → IsHoldings held → shown_at key (shown_of (purged_own held floor) owner).entries ≡ shown_at key (shown_of held owner).entries
  purged-row owner key is = by-owner (λ t u. shown_at key u.entries ≡ shown_at key t.entries) owner (row-stays mine floor key (IsHolder-held held is held.me)) refl
