-- What a read of a table that holds gives.
use Rattle.std.proofs.Common.{◌≡◌, ℕ, ◌≤◌, Bool, true, false, cond, List, [], ◌∷◌, ◌⊎◌, inl, inr, ⊎_elim, refl, sym, ap, ◌∙◌, subst, Option, Some, None, nat_eq}
use Rattle.std.proofs.lemmas.Bool.{cases_order, and_parts, false_from_ne_true}
use Rattle.std.specs.Cmp.Lexicographic.{pointwise}
use Rattle.sb_types.specs.declared.entry.Slot.{Slot}
use Rattle.sb_types.specs.declared.entry.Slot.TheVariants.{Set, Removed}
use Rattle.sb_types.specs.declared.entry.Write.{Write}
use Rattle.sb_types.specs.Value.{Value}
use Rattle.sb_types.specs.Records.{Entry, Table}
use Rattle.sb_types.specs.Runs.{Stands, IsTable, are_distinct, entry_at, shown_slot, shown_by_entry, shown_at}
use Rattle.sb_types.specs.Writes.{Written, Superseded, Gone, Holds}
use Rattle.sb_types.proofs.Standing.{not_there}
use Rattle.sb_types.proofs.Texts.{same_text, text_same}
use Rattle.sb_holdings.proofs.Telling.{one_write, same_parts}

first_found : (b : Bool) (x : Entry) (o : Option Entry) (e : Entry) → cond b (Some x) o ≡ Some e → ((b ≡ true) × (x ≡ e)) ⊎ (o ≡ Some e)
first_found true x o e f = inl (refl, cc)
first_found false x o e f = inr f

-- what is found stands under the key
found_stands : (key : List ℕ) (es : List Entry) (e : Entry) → entry_at key es ≡ Some e → Stands es e × (e.key ≡ key)
found_stands key [] e f = absurd (cc)
found_stands key (x ∷ xs) e f =
    ⊎_elim (λ h. (inl h.1, sym (ap (λ (y : Entry). y.key) h.1) ∙ same_text x.key key h.0))
    (λ r. let k = found_stands key xs e r in (inr k.0, k.1))
    (first_found (pointwise nat_eq x.key key) x (entry_at key xs) e f)

-- and what stands is found
stands_found : (es : List Entry) (e : Entry) → are_distinct es ≡ true → Stands es e → entry_at e.key es ≡ Some e
stands_found [] e d s = absurd s
stands_found (x ∷ xs) e d (inl p) = rw (text_same x.key e.key (ap (λ (y : Entry). y.key) p)) (ap Some p)
stands_found (x ∷ xs) e d (inr s) =
    let other : pointwise nat_eq x.key e.key ≡ false = false_from_ne_true _ (λ t. not_there x.key xs e (and_parts _ _ d).0 s (sym (same_text x.key e.key t))) in
    rw other (stands_found xs e (and_parts _ _ d).1 s)

shown_none : (o : Option Entry) → ((x : Entry) → o ≡ Some x → x.slot ≡ Removed) → shown_by_entry o ≡ None
shown_none None f = refl
shown_none (Some x) f = ap (shown_slot x.version) (f x refl)

set_entry : (version at : ℕ) (slot : Slot) (value : Value) → shown_slot version slot ≡ Some (value, at) → (slot ≡ Set value) × (version ≡ at)
set_entry version at (Set v) value e =
    let same : ◌≡◌ {A = Value × ℕ} (v, version) (value, at) = cc in
    (ap (λ (p : Value × ℕ). Set p.0) same, ap (λ (p : Value × ℕ). p.1) same)
set_entry version at Removed value e = absurd (cc)

shown_entry : (o : Option Entry) (value : Value) (version : ℕ) → shown_by_entry o ≡ Some (value, version) → (e : Entry) × (o ≡ Some e) × (e.slot ≡ Set value) × (e.version ≡ version)
shown_entry None value version f = absurd (cc)
shown_entry (Some e) value version f = let s = set_entry e.version version e.slot value f in (e, refl, s.0, s.1)

pub read_written : (writes : List Write) (t : Table) (key : List ℕ) (value : Value) (version : ℕ) → Holds writes t → shown_at key t.entries ≡ Some (value, version) → Written writes (record { key = key; version = version; slot = Set value })
read_written writes t key value version h f =
    let e = shown_entry (entry_at key t.entries) value version f in
    let s = found_stands key t.entries e.0 e.1 in
    subst (Written writes) (same_parts e.0 (record { key = key; version = version; slot = Set value }) e.3 s.1 e.2) (h.true_each e.0 s.0)

module _ (writes : List Write) (t : Table) (e : Entry) (i : IsTable t) (h : Holds writes t) (w : Written writes e) (last : Superseded writes e → ⊥) where
  -- a marker that may have gone: what stands under its key is no other entry
  read_gone : Gone t.floor e → shown_at e.key t.entries ≡ shown_slot e.version e.slot
  read_gone g = shown_none (entry_at e.key t.entries) marker ∙ sym (ap (shown_slot e.version) g.0)
    where
      marker : (x : Entry) → entry_at e.key t.entries ≡ Some x → x.slot ≡ Removed
      marker x f =
          let s = found_stands e.key t.entries x f in
          ⊎_elim
          (λ same. ap (λ (y : Entry). y.slot) (one_write x e (h.true_each x s.0) w same) ∙ g.0)
          (λ apart. absurd (⊎_elim (λ older. last (h.past e x w g s.0 s.1 older)) (λ newer. last (x, h.true_each x s.0, s.1, newer)) apart))
          (cases_order x.version e.version)

  pub read_exact : e.version ≤ t.held → shown_at e.key t.entries ≡ shown_slot e.version e.slot
  read_exact l = ⊎_elim
      (λ s. ap shown_by_entry (stands_found t.entries e i.run.distinct s))
      (λ rest. ⊎_elim (λ s. absurd (last s)) read_gone rest)
      (h.whole e w w.counted l)
