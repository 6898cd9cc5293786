-- What a block shows in which no entry is foreign, and which lacks no own entry.
use Rattle.std.proofs.Common.{◌≡◌, ℕ, ◌<◌, ◌≤◌, true, false, List, inr, ⊎_elim, refl, sym, ap, ◌∙◌, subst, Option, Some, None, arith, nat_eq}
use Rattle.std.proofs.lemmas.Bool.{cases_Bool, cases_order, false≢true}
use Rattle.std.specs.Cmp.Lexicographic.{pointwise}
use Rattle.sb_types.specs.declared.entry.Slot.{Slot}
use Rattle.sb_types.specs.declared.entry.Slot.TheVariants.{Set, Removed}
use Rattle.sb_types.specs.Records.{Entry, Table, Block}
use Rattle.sb_types.specs.Runs.{Stands, IsTable, IsBlock, entry_at, has_key, is_set, shown_slot, shown_by_entry, shown_at}
use Rattle.sb_types.proofs.Standing.{keyed}
use Rattle.sb_types.proofs.Texts.{same_text, text_same}
use Rattle.sb_table.proofs.Lookup.{Stands-entry_at, key-entry_at, entry_at-stands, entry_at-none}
use Rattle.sb_table.proofs.Order.{run_after}
use Rattle.sb_holdings.proofs.Telling.{same_parts}
use Rattle.sb_audit.specs.declared.foreign.Reason.TheVariants.{OtherSlot, OtherKey, LaterWrite, EarlierWrite, UnknownKey}
use Rattle.sb_audit.specs.Foreign.{IsForeign}
use Rattle.sb_audit.specs.Missing.{IsMissing}
use Rattle.sb_audit.specs.Search.{is_same_slot}
use Rattle.sb_audit.proofs.Equal.{same_slot, slot_same}

-- another entry of an own version is foreign
pub other_foreign : (t : Table) (upto : ℕ) (own e : Entry) → Stands t.entries own → own.version ≡ e.version → (own ≡ e → ⊥) → IsForeign t upto e
other_foreign t upto own e s version apart =
    ⊎_elim
    (λ same.
    let key = same_text own.key e.key same in
    (OtherSlot, (own, s, version, key, λ slot. apart (same_parts own e version key slot))))
    (λ other. (OtherKey, (own, s, version, λ key. false≢true (sym other ∙ text_same own.key e.key key))))
    (cases_Bool (pointwise nat_eq own.key e.key))

-- nothing is shown of a slot that cannot be a value
shown_no_value : (version : ℕ) (slot : Slot) → (is_set slot ≡ true → ⊥) → shown_slot version slot ≡ None
shown_no_value version (Set value) never = absurd (never refl)
shown_no_value version Removed never = refl

set_removed : (slot : Slot) → is_set slot ≡ true → slot ≡ Removed → ⊥
set_removed slot set removed = false≢true (sym (ap is_set removed) ∙ set)

module _ (t : Table) (b : Block) (key : List ℕ) (is : IsTable t) (block : IsBlock b)
    (clean : (e : Entry) → Stands b.entries e → IsForeign t b.upto e → ⊥) (whole : (own : Entry) → Stands t.entries own → IsMissing b own → ⊥) where
  -- ---- a key that the own table has

  module _ (own : Entry) (s : Stands t.entries own) (of_key : own.key ≡ key) (above : b.after < own.version) (within : own.version ≤ b.upto) where
    same_version : (e : Entry) → Stands b.entries e → e.key ≡ key → own.version ≡ e.version
    same_version e there k =
        ⊎_elim (λ same. same)
        (λ apart. absurd (⊎_elim
        (λ later. clean e there (LaterWrite, (own, s, of_key ∙ sym k, later)))
        (λ earlier. clean e there (EarlierWrite, (own, s, of_key ∙ sym k, earlier, within)))
        apart))
        (cases_order own.version e.version)

    same_slots : (e : Entry) → Stands b.entries e → e.key ≡ key → own.slot ≡ e.slot
    same_slots e there k =
        ⊎_elim (same_slot own.slot e.slot)
        (λ other. absurd (clean e there (OtherSlot, (own, s, same_version e there k, of_key ∙ sym k, λ slot. false≢true (sym other ∙ slot_same own.slot e.slot slot)))))
        (cases_Bool (is_same_slot own.slot e.slot))

    known_in : (o : Option Entry) → entry_at key b.entries ≡ o → shown_by_entry o ≡ shown_slot own.version own.slot
    known_in (Some e) found =
        let there = Stands-entry_at key b.entries e found in
        let k = key-entry_at key b.entries e found in
        sym (ap (λ (v : ℕ). shown_slot v own.slot) (same_version e there k) ∙ ap (shown_slot e.version) (same_slots e there k))
    known_in None found = sym (shown_no_value own.version own.slot (λ set. whole own s (record {
      after = above;
      upto = within;
      lacks = λ there.
          let at : entry_at key b.entries ≡ Some own = subst (λ (k : List ℕ). entry_at k b.entries ≡ Some own) of_key (entry_at-stands b.entries own block.run.distinct there) in
          absurd (cc);
      stays = λ gone. set_removed own.slot set gone.0;
    })))

    pub known_shown : shown_at key b.entries ≡ shown_at key t.entries
    known_shown =
        let at : entry_at key t.entries ≡ Some own = subst (λ (k : List ℕ). entry_at k t.entries ≡ Some own) of_key (entry_at-stands t.entries own is.run.distinct s) in
        known_in (entry_at key b.entries) refl ∙ sym (ap shown_by_entry at)

  -- ---- a key that it does not have

  unknown_in : t.floor ≤ b.upto → has_key key t.entries ≡ false → (o : Option Entry) → entry_at key b.entries ≡ o → shown_by_entry o ≡ None
  unknown_in reach lacks None found = refl
  unknown_in reach lacks (Some e) found =
      let k = key-entry_at key b.entries e found in
      let none : has_key e.key t.entries ≡ false = subst (λ (it : List ℕ). has_key it t.entries ≡ false) (sym k) lacks in
      shown_no_value e.version e.slot (λ set. clean e (Stands-entry_at key b.entries e found) (UnknownKey, (none, inr (set, reach))))

  pub passes_shown : b.after ≡ 0 → t.floor ≤ b.upto → ((own : Entry) → Stands t.entries own → own.key ≡ key → own.version ≤ b.upto) → shown_at key b.entries ≡ shown_at key t.entries
  passes_shown start reach within =
      ⊎_elim
      (λ has. let k = keyed key t.entries has in known_shown k.0 k.1 k.2 (omega (arith, start, run_after k.0 is.run k.1)) (within k.0 k.1 k.2))
      (λ lacks. unknown_in reach lacks (entry_at key b.entries) refl ∙ sym (ap shown_by_entry (entry_at-none key t.entries lacks)))
      (cases_Bool (has_key key t.entries))
