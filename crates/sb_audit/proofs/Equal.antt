-- Equal slots and equal entries.
use Rattle.std.proofs.Common.{◌≡◌, true, false, refl, sym, ap, subst}
use Rattle.std.proofs.lemmas.Bool.{and_parts, and_from, eqb-true, eq-eqb, false≢true}
use Rattle.sb_types.specs.declared.entry.Slot.{Slot}
use Rattle.sb_types.specs.declared.entry.Slot.TheVariants.{Set, Removed}
use Rattle.sb_types.specs.Value.{Value, Addr, Weight, Flag, Text}
use Rattle.sb_types.specs.Kinds.{is_same_value}
use Rattle.sb_types.specs.Records.{Entry}
use Rattle.sb_types.proofs.Texts.{same_text, text_same}
use Rattle.sb_holdings.proofs.Telling.{same_parts}
use Rattle.sb_audit.specs.Search.{is_same_slot, is_same_entry}

same_value : (a b : Value) → is_same_value a b ≡ true → a ≡ b
same_value (Addr text) (Addr other) h = ap Addr (sym (same_text other text h))
same_value (Addr text) (Weight other) h = absurd (false≢true h)
same_value (Addr text) (Flag other) h = absurd (false≢true h)
same_value (Addr text) (Text other) h = absurd (false≢true h)
same_value (Weight weight) (Addr other) h = absurd (false≢true h)
same_value (Weight weight) (Weight other) h = ap Weight (sym (eqb-true other weight h))
same_value (Weight weight) (Flag other) h = absurd (false≢true h)
same_value (Weight weight) (Text other) h = absurd (false≢true h)
same_value (Flag flag) (Addr other) h = absurd (false≢true h)
same_value (Flag flag) (Weight other) h = absurd (false≢true h)
same_value (Flag true) (Flag true) h = refl
same_value (Flag true) (Flag false) h = absurd (false≢true h)
same_value (Flag false) (Flag true) h = absurd (false≢true h)
same_value (Flag false) (Flag false) h = refl
same_value (Flag flag) (Text other) h = absurd (false≢true h)
same_value (Text text) (Addr other) h = absurd (false≢true h)
same_value (Text text) (Weight other) h = absurd (false≢true h)
same_value (Text text) (Flag other) h = absurd (false≢true h)
same_value (Text text) (Text other) h = ap Text (sym (same_text other text h))

value_itself : (a : Value) → is_same_value a a ≡ true
value_itself (Addr text) = text_same text text refl
value_itself (Weight weight) = eq-eqb weight weight refl
value_itself (Flag true) = refl
value_itself (Flag false) = refl
value_itself (Text text) = text_same text text refl

pub same_slot : (a b : Slot) → is_same_slot a b ≡ true → a ≡ b
same_slot (Set value) (Set other) h = ap Set (same_value value other h)
same_slot (Set value) Removed h = absurd (false≢true h)
same_slot Removed (Set other) h = absurd (false≢true h)
same_slot Removed Removed h = refl

slot_itself : (a : Slot) → is_same_slot a a ≡ true
slot_itself (Set value) = value_itself value
slot_itself Removed = refl

pub slot_same : (a b : Slot) → a ≡ b → is_same_slot a b ≡ true
slot_same a b same = subst (λ (s : Slot). is_same_slot a s ≡ true) same (slot_itself a)

pub same_entry : (own e : Entry) → own.version ≡ e.version → is_same_entry own e ≡ true → own ≡ e
same_entry own e version h =
    let parts = and_parts _ _ h in
    same_parts own e version (same_text own.key e.key parts.0) (same_slot own.slot e.slot parts.1)

pub entry_itself : (own : Entry) → is_same_entry own own ≡ true
entry_itself own = and_from _ _ (text_same own.key own.key refl) (slot_itself own.slot)
