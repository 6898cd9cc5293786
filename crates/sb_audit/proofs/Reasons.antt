-- The reason that is found is the first that fits; if none is found, none fits.
use Rattle.std.proofs.Common.{◌≡◌, ℕ, ◌<◌, ◌≤◌, false, not, ◌&&◌, ◌||◌, cond, List, inl, inr, ⊎_elim, ◌⊎◌, refl, sym, ap, ◌∙◌, subst, nat_eq, nat_lt, nat_le, Option, Some, None, arith, ltb-true, ltb-false, leb-true}
use Rattle.std.proofs.lemmas.Bool.{cases_lt, cond_both, or_cases, or_parts, and_parts, and_from, le-leb, lt-ltb, leb-false, not-true, not-false, false≢true, false_from_ne_true}
use Rattle.std.specs.Cmp.Lexicographic.{pointwise}
use Rattle.sb_types.specs.Records.{Entry, Table}
use Rattle.sb_types.specs.Runs.{Stands, IsRun, entry_at, has_key, is_set}
use Rattle.sb_types.proofs.Standing.{has, keyed}
use Rattle.sb_types.proofs.Texts.{same_text, text_same}
use Rattle.sb_table.proofs.Lookup.{Stands-entry_at, key-entry_at, entry_at-stands}
use Rattle.sb_table.proofs.Order.{run_one}
use Rattle.sb_audit.specs.declared.foreign.Reason.{Reason}
use Rattle.sb_audit.specs.declared.foreign.Reason.TheVariants.{AheadOfLog, OtherSlot, OtherKey, LaterWrite, EarlierWrite, UnknownKey}
use Rattle.sb_audit.specs.Foreign.{Explains, IsForeign, IsReason, place_of}
use Rattle.sb_audit.specs.Search.{entry_of, is_same_slot, reason_beside, reason_by_key, reason_by_version, reason_of}
use Rattle.sb_audit.proofs.Equal.{same_slot, slot_same}
use Rattle.sb_audit.proofs.Versions.{found_stands, stands_found}

-- what an answer says
abbrev pub Answers : Table → ℕ → Entry → Option Reason → Type 0
Answers t upto e None = IsForeign t upto e → ⊥
Answers t upto e (Some reason) = IsReason t upto e reason

module _ (t : Table) (upto : ℕ) (e : Entry) (run : IsRun 0 t.held t.entries) where
  abbrev No : Reason → Type 0
  No reason = Explains t upto e reason → ⊥

  none_fits : No AheadOfLog → No OtherSlot → No OtherKey → No LaterWrite → No EarlierWrite → No UnknownKey → IsForeign t upto e → ⊥
  none_fits a b c d f g foreign = go foreign.0 foreign.1
    where
      go : (reason : Reason) → Explains t upto e reason → ⊥
      go AheadOfLog x = a x
      go OtherSlot x = b x
      go OtherKey x = c x
      go LaterWrite x = d x
      go EarlierWrite x = f x
      go UnknownKey x = g x

  -- the reason fits, and each one before it does not
  abbrev Before : ℕ → Type 0
  Before place = (reason : Reason) → place_of reason < place → No reason

  before_slot : No AheadOfLog → Before 1
  before_slot a AheadOfLog l x = a x
  before_slot a OtherSlot l x = omega (arith, l)
  before_slot a OtherKey l x = omega (arith, l)
  before_slot a LaterWrite l x = omega (arith, l)
  before_slot a EarlierWrite l x = omega (arith, l)
  before_slot a UnknownKey l x = omega (arith, l)

  before_key : Before 1 → No OtherSlot → Before 2
  before_key before b AheadOfLog l x = before AheadOfLog (omega arith) x
  before_key before b OtherSlot l x = b x
  before_key before b OtherKey l x = omega (arith, l)
  before_key before b LaterWrite l x = omega (arith, l)
  before_key before b EarlierWrite l x = omega (arith, l)
  before_key before b UnknownKey l x = omega (arith, l)

  before_later : Before 2 → No OtherKey → Before 3
  before_later before c AheadOfLog l x = before AheadOfLog (omega arith) x
  before_later before c OtherSlot l x = before OtherSlot (omega arith) x
  before_later before c OtherKey l x = c x
  before_later before c LaterWrite l x = omega (arith, l)
  before_later before c EarlierWrite l x = omega (arith, l)
  before_later before c UnknownKey l x = omega (arith, l)

  before_earlier : Before 3 → No LaterWrite → Before 4
  before_earlier before d AheadOfLog l x = before AheadOfLog (omega arith) x
  before_earlier before d OtherSlot l x = before OtherSlot (omega arith) x
  before_earlier before d OtherKey l x = before OtherKey (omega arith) x
  before_earlier before d LaterWrite l x = d x
  before_earlier before d EarlierWrite l x = omega (arith, l)
  before_earlier before d UnknownKey l x = omega (arith, l)

  before_unknown : Before 4 → No EarlierWrite → Before 5
  before_unknown before f AheadOfLog l x = before AheadOfLog (omega arith) x
  before_unknown before f OtherSlot l x = before OtherSlot (omega arith) x
  before_unknown before f OtherKey l x = before OtherKey (omega arith) x
  before_unknown before f LaterWrite l x = before LaterWrite (omega arith) x
  before_unknown before f EarlierWrite l x = f x
  before_unknown before f UnknownKey l x = omega (arith, l)

  -- ---- the table has an entry of the version

  module _ (within : No AheadOfLog) (own : Entry) (found : entry_of e.version t.entries ≡ Some own) where
    abbrev stands : Stands t.entries own
    stands = (found_stands e.version t.entries own found).0

    abbrev version : own.version ≡ e.version
    version = (found_stands e.version t.entries own found).1

    only : (x : Entry) → Stands t.entries x → x.version ≡ e.version → own ≡ x
    only x s v =
        let there : entry_of e.version t.entries ≡ Some x = subst (λ (n : ℕ). entry_of n t.entries ≡ Some x) v (stands_found 0 t.entries x run.ascending s) in
        let some : Some own ≡ Some x = sym found ∙ there in
        cc

    other_key : (own.key ≡ e.key → ⊥) → IsReason t upto e OtherKey
    other_key apart = record {
      explains = (own, stands, version, apart);
      first = before_key (before_slot within) (λ x. apart (ap (λ (y : Entry). y.key) (only x.0 x.1 x.2) ∙ x.3));
    }

    other_slot : own.key ≡ e.key → (own.slot ≡ e.slot → ⊥) → IsReason t upto e OtherSlot
    other_slot key apart = record { explains = (own, stands, version, key, apart); first = before_slot within }

    same_write : own.key ≡ e.key → own.slot ≡ e.slot → IsForeign t upto e → ⊥
    same_write key slot = none_fits within
        (λ x. x.4 (sym (ap (λ (y : Entry). y.slot) (only x.0 x.1 x.2)) ∙ slot))
        (λ x. x.3 (sym (ap (λ (y : Entry). y.key) (only x.0 x.1 x.2)) ∙ key))
        (λ x. omega (arith, x.3, version, ap (λ (y : Entry). y.version) (run_one own x.0 run stands x.1 (key ∙ sym x.2))))
        (λ x. omega (arith, x.3, version, ap (λ (y : Entry). y.version) (run_one own x.0 run stands x.1 (key ∙ sym x.2))))
        (λ x. false≢true (sym x.0 ∙ has e.key t.entries own stands key))

    beside : Answers t upto e (reason_beside own e)
    beside =
        cond_both (not (pointwise nat_eq own.key e.key)) (Some OtherKey) (cond (is_same_slot own.slot e.slot) None (Some OtherSlot)) (Answers t upto e)
        (λ apart. other_key (λ same. false≢true (sym (not-true _ apart) ∙ text_same own.key e.key same)))
        (λ same.
        let key = same_text own.key e.key (not-false _ same) in
        cond_both (is_same_slot own.slot e.slot) None (Some OtherSlot) (Answers t upto e)
        (λ equal. same_write key (same_slot own.slot e.slot equal))
        (λ other. other_slot key (λ equal. false≢true (sym other ∙ slot_same own.slot e.slot equal))))

  -- ---- it has none

  module _ (within : No AheadOfLog) (none : (x : Entry) → Stands t.entries x → x.version ≡ e.version → ⊥) where
    no_slot : No OtherSlot
    no_slot x = none x.0 x.1 x.2

    no_key : No OtherKey
    no_key x = none x.0 x.1 x.2

    first_two : Before 3
    first_two = before_later (before_key (before_slot within) no_slot) no_key

    module _ (own : Entry) (stands : Stands t.entries own) (key : own.key ≡ e.key) where
      same_version : (x : Entry) → Stands t.entries x → x.key ≡ e.key → own.version ≡ x.version
      same_version x s k = ap (λ (y : Entry). y.version) (run_one own x run stands s (key ∙ sym k))

      known : No UnknownKey
      known x = false≢true (sym x.0 ∙ has e.key t.entries own stands key)

      by_own : Answers t upto e (reason_by_key t.floor upto e (Some own))
      by_own =
          cond_both (nat_lt own.version e.version) (Some LaterWrite) (cond (nat_le own.version upto) (Some EarlierWrite) None) (Answers t upto e)
          (λ later. record { explains = (own, stands, key, ltb-true own.version e.version later); first = first_two })
          (λ other.
          let not_later = ltb-false own.version e.version other in
          let no_later : No LaterWrite = (λ x. omega (arith, not_later, x.3, same_version x.0 x.1 x.2)) in
          let apart : e.version < own.version = ⊎_elim (λ l. l) (λ same. absurd (none own stands same)) (strictly not_later) in
          cond_both (nat_le own.version upto) (Some EarlierWrite) None (Answers t upto e)
          (λ reached. record { explains = (own, stands, key, apart, leb-true own.version upto reached); first = before_earlier first_two no_later })
          (λ beyond. none_fits within no_slot no_key no_later (λ x. omega (arith, x.4, leb-false own.version upto beyond, same_version x.0 x.1 x.2)) known))
        where
          strictly : e.version ≤ own.version → (e.version < own.version) ⊎ (own.version ≡ e.version)
          strictly l = ⊎_elim inl (λ r. inr (omega (arith, l, r))) (cases_lt e.version own.version)

    module _ (lacks : has_key e.key t.entries ≡ false) where
      absent : (x : Entry) → Stands t.entries x → x.key ≡ e.key → ⊥
      absent x s k = false≢true (sym lacks ∙ has e.key t.entries x s k)

      by_none : Answers t upto e (reason_by_key t.floor upto e None)
      by_none =
          cond_both (nat_lt t.floor e.version || (is_set e.slot && nat_le t.floor upto)) (Some UnknownKey) None (Answers t upto e)
          (λ unknown. record {
            explains = (
              lacks,
              ⊎_elim
                  (λ above. inl (ltb-true t.floor e.version above))
                  (λ value. let parts = and_parts (is_set e.slot) (nat_le t.floor upto) value in inr (parts.0, leb-true t.floor upto parts.1))
                  (or_cases (nat_lt t.floor e.version) (is_set e.slot && nat_le t.floor upto) unknown),
            );
            first = before_unknown (before_earlier first_two (λ x. absent x.0 x.1 x.2)) (λ x. absent x.0 x.1 x.2);
          })
          (λ allowed.
          let parts = or_parts (nat_lt t.floor e.version) (is_set e.slot && nat_le t.floor upto) allowed in
          none_fits within no_slot no_key (λ x. absent x.0 x.1 x.2) (λ x. absent x.0 x.1 x.2)
          (λ x. ⊎_elim
          (λ above. false≢true (sym parts.0 ∙ lt-ltb t.floor e.version above))
          (λ value. false≢true (sym parts.1 ∙ and_from (is_set e.slot) (nat_le t.floor upto) value.0 (le-leb t.floor upto value.1)))
          x.1))

    by_key : (o : Option Entry) → entry_at e.key t.entries ≡ o → Answers t upto e (reason_by_key t.floor upto e o)
    by_key (Some own) found = by_own own (Stands-entry_at e.key t.entries own found) (key-entry_at e.key t.entries own found)
    by_key None found = by_none (false_from_ne_true _ (λ h.
        let k = keyed e.key t.entries h in
        let there : entry_at e.key t.entries ≡ Some k.0 = subst (λ (key : List ℕ). entry_at key t.entries ≡ Some k.0) k.2 (entry_at-stands t.entries k.0 run.distinct k.1) in
        absurd (cc)))

  by_version : No AheadOfLog → (o : Option Entry) → entry_of e.version t.entries ≡ o → Answers t upto e (reason_by_version t upto e o)
  by_version within (Some own) found = beside within own found
  by_version within None found = by_key within
      (λ x s v.
      let there : entry_of e.version t.entries ≡ Some x = subst (λ (n : ℕ). entry_of n t.entries ≡ Some x) v (stands_found 0 t.entries x run.ascending s) in
      absurd (cc))
      (entry_at e.key t.entries) refl

  pub reason_answers : Answers t upto e (reason_of t upto e)
  reason_answers =
      cond_both (nat_lt t.held e.version) (Some AheadOfLog) (reason_by_version t upto e (entry_of e.version t.entries)) (Answers t upto e)
      (λ ahead. record { explains = ltb-true t.held e.version ahead; first = λ other l x. absurd (omega (arith, l)) })
      (λ within. by_version (λ ahead. omega (arith, ahead, ltb-false t.held e.version within)) (entry_of e.version t.entries) refl)
