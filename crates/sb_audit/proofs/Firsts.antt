-- The first foreign entry of a block, and the first own entry that a block lacks.
use Rattle.std.proofs.Common.{◌≡◌, ℕ, ◌<◌, ◌≤◌, true, false, not, ◌||◌, cond, List, [], ◌∷◌, inl, inr, ⊎_elim, refl, sym, ap, ◌∙◌, subst, nat_lt, Option, Some, None, IfSome, IfNone, arith, ltb-true, ltb-false}
use Rattle.std.proofs.lemmas.Bool.{cond_both, and_parts, and_cases, or_from, not-true, not-false, not_from_false, false≢true, le-ltb}
use Rattle.std.specs.Option.{option_map}
use Rattle.sb_types.specs.declared.entry.Slot.{Slot}
use Rattle.sb_types.specs.declared.entry.Slot.TheVariants.{Set, Removed}
use Rattle.sb_types.specs.Records.{Entry, Table, Block}
use Rattle.sb_types.specs.Runs.{Stands, IsRun, is_set, are_ascending, newer_entries}
use Rattle.sb_table.specs.Floors.{is_dead}
use Rattle.sb_table.proofs.Order.{behind}
use Rattle.sb_audit.specs.declared.foreign.Reason.{Reason}
use Rattle.sb_audit.specs.Foreign.{IsForeign, IsReason, IsFirst}
use Rattle.sb_audit.specs.Missing.{IsMissing}
use Rattle.sb_audit.specs.Search.{entry_of, is_entry, is_lacking, first_lacking, or_foreign, reason_of, first_foreign}
use Rattle.sb_audit.proofs.Equal.{same_entry, entry_itself}
use Rattle.sb_audit.proofs.Versions.{found_stands, stands_found}
use Rattle.sb_audit.proofs.Reasons.{Answers, reason_answers}

-- ---- the first of a list

module _ {Such : Entry → Type 0} where
  pub first_here : (x : Entry) (xs : List Entry) → Such x → IsFirst Such (x ∷ xs) x
  first_here x xs such = record { before = []; behind = xs; parts = refl; such = such; first = λ y s. absurd s }

  pub first_there : (x : Entry) (xs : List Entry) (e : Entry) → (Such x → ⊥) → IsFirst Such xs e → IsFirst Such (x ∷ xs) e
  first_there x xs e never f = record {
    before = x ∷ f.before;
    behind = f.behind;
    parts = ap (λ (es : List Entry). x ∷ es) f.parts;
    such = f.such;
    first = λ y s. ⊎_elim (λ p. subst (λ (z : Entry). Such z → ⊥) p never) (λ r. f.first y r) s;
  }

  pub none_there : (x : Entry) (xs : List Entry) → (Such x → ⊥) → ((y : Entry) → Stands xs y → Such y → ⊥) → (y : Entry) → Stands (x ∷ xs) y → Such y → ⊥
  none_there x xs never rest y (inl p) = subst (λ (z : Entry). Such z → ⊥) p never
  none_there x xs never rest y (inr s) = rest y s

-- ---- foreign entries

module _ (t : Table) (upto : ℕ) (run : IsRun 0 t.held t.entries) where
  abbrev pub Found : List Entry → Option (Entry × Reason) → Type 0
  Found es None = (e : Entry) → Stands es e → IsForeign t upto e → ⊥
  Found es (Some p) = IsFirst (IsForeign t upto) es p.0 × IsReason t upto p.0 p.1

  found_behind : (x : Entry) (xs : List Entry) → (IsForeign t upto x → ⊥) → (o : Option (Entry × Reason)) → Found xs o → Found (x ∷ xs) o
  found_behind x xs never None rest = none_there x xs never rest
  found_behind x xs never (Some p) f = (first_there x xs p.0 never f.0, f.1)

  found_next : (x : Entry) (xs : List Entry) (r : Option Reason) (o : Option (Entry × Reason)) → Answers t upto x r → Found xs o → Found (x ∷ xs) (or_foreign x r o)
  found_next x xs (Some reason) o is rest = (first_here x xs (reason, is.explains), is)
  found_next x xs None o never rest = found_behind x xs never o rest

  found_all : (es : List Entry) → Found es (first_foreign t upto es)
  found_all [] = λ e s. absurd s
  found_all (x ∷ xs) = found_next x xs (reason_of t upto x) (first_foreign t upto xs) (reason_answers t upto x run) (found_all xs)

  module _ {F : Type 0} (entry : F → Entry) (reason : F → Reason) (es : List Entry) where
    found_as : (r : Option F) → option_map (λ f. (entry f, reason f)) r ≡ first_foreign t upto es → Found es (option_map (λ f. (entry f, reason f)) r)
    found_as r is = subst (Found es) (sym is) (found_all es)

    pub found_first : (r : Option F) → option_map (λ f. (entry f, reason f)) r ≡ first_foreign t upto es → IfSome r (λ f. IsFirst (IsForeign t upto) es (entry f))
    found_first None is = tt
    found_first (Some f) is = (found_as (Some f) is).0

    pub found_reason : (r : Option F) → option_map (λ f. (entry f, reason f)) r ≡ first_foreign t upto es → IfSome r (λ f. IsReason t upto (entry f) (reason f))
    found_reason None is = tt
    found_reason (Some f) is = (found_as (Some f) is).1

    pub found_none : (r : Option F) → option_map (λ f. (entry f, reason f)) r ≡ first_foreign t upto es → IfNone r ((e : Entry) → Stands es e → IsForeign t upto e → ⊥)
    found_none None is = found_as None is
    found_none (Some f) is = tt

-- ---- missing entries

dead_gone : (slot : Slot) (floor version : ℕ) → not (is_set slot || nat_lt floor version) ≡ true → (slot ≡ Removed) × (version ≤ floor)
dead_gone (Set value) floor version h = absurd (false≢true h)
dead_gone Removed floor version h = (refl, ltb-false floor version (not-true _ h))

gone_dead : (slot : Slot) (floor version : ℕ) → (slot ≡ Removed) × (version ≤ floor) → not (is_set slot || nat_lt floor version) ≡ true
gone_dead slot floor version gone = not_from_false _ (or_from _ _ (ap is_set gone.0) (le-ltb floor version gone.1))

module _ (b : Block) (run : IsRun b.after b.upto b.entries) where
  entry_stands : (own : Entry) (o : Option Entry) → entry_of own.version b.entries ≡ o → is_entry own o ≡ true → Stands b.entries own
  entry_stands own None found h = absurd (false≢true h)
  entry_stands own (Some e) found h =
      let k = found_stands own.version b.entries e found in
      subst (Stands b.entries) (sym (same_entry own e (sym k.1) h)) k.0

  stands_entry : (own : Entry) → Stands b.entries own → is_entry own (entry_of own.version b.entries) ≡ true
  stands_entry own s = rw (stands_found b.after b.entries own run.ascending s) (entry_itself own)

  lacking_missing : (own : Entry) → b.after < own.version → own.version ≤ b.upto → is_lacking b own ≡ true → IsMissing b own
  lacking_missing own after upto h =
      let parts = and_parts (not (is_dead b.floor own)) (not (is_entry own (entry_of own.version b.entries))) h in
      record {
        after = after;
        upto = upto;
        lacks = λ s. false≢true (sym (not-true _ parts.1) ∙ stands_entry own s);
        stays = λ gone. false≢true (sym (not-true _ parts.0) ∙ gone_dead own.slot b.floor own.version gone);
      }

  not_lacking : (own : Entry) → is_lacking b own ≡ false → IsMissing b own → ⊥
  not_lacking own h m =
      ⊎_elim
      (λ dead. m.stays (dead_gone own.slot b.floor own.version (not-false _ dead)))
      (λ there. m.lacks (entry_stands own (entry_of own.version b.entries) refl (not-false _ there)))
      (and_cases (not (is_dead b.floor own)) (not (is_entry own (entry_of own.version b.entries))) h)

  abbrev pub Lacked : List Entry → Option Entry → Type 0
  Lacked es None = (own : Entry) → Stands es own → IsMissing b own → ⊥
  Lacked es (Some own) = IsFirst (IsMissing b) es own

  lacked_behind : (x : Entry) (xs : List Entry) → (IsMissing b x → ⊥) → (o : Option Entry) → Lacked xs o → Lacked (x ∷ xs) o
  lacked_behind x xs never None rest = none_there x xs never rest
  lacked_behind x xs never (Some own) f = first_there x xs own never f

  lacked_all : (a : ℕ) (es : List Entry) → are_ascending a es ≡ true → Lacked es (first_lacking b (newer_entries b.after es))
  lacked_all a [] up = λ own s. absurd s
  lacked_all a (x ∷ xs) up =
      let parts = and_parts (nat_lt a x.version) (are_ascending x.version xs) up in
      let rest = lacked_all x.version xs parts.1 in
      cond_both (nat_lt b.after x.version) (x ∷ newer_entries b.after xs) (newer_entries b.after xs) (λ (es : List Entry). Lacked (x ∷ xs) (first_lacking b es))
      (λ above.
      cond_both (nat_lt b.upto x.version) None (cond (is_lacking b x) (Some x) (first_lacking b (newer_entries b.after xs))) (Lacked (x ∷ xs))
      (λ beyond.
      let higher = ltb-true b.upto x.version beyond in
      none_there x xs (λ m. omega (arith, m.upto, higher)) (λ y s m. omega (arith, m.upto, higher, behind x.version xs y parts.1 s)))
      (λ within.
      cond_both (is_lacking b x) (Some x) (first_lacking b (newer_entries b.after xs)) (Lacked (x ∷ xs))
      (λ lacking. first_here x xs (lacking_missing x (ltb-true b.after x.version above) (ltb-false b.upto x.version within) lacking))
      (λ had. lacked_behind x xs (not_lacking x had) (first_lacking b (newer_entries b.after xs)) rest)))
      (λ below. lacked_behind x xs (λ m. omega (arith, m.after, ltb-false b.after x.version below)) (first_lacking b (newer_entries b.after xs)) rest)

  module _ {F : Type 0} (entry : F → Entry) (t : Table) (own_run : IsRun 0 t.held t.entries) where
    lacked_as : (r : Option F) → option_map entry r ≡ first_lacking b (newer_entries b.after t.entries) → Lacked t.entries (option_map entry r)
    lacked_as r is = subst (Lacked t.entries) (sym is) (lacked_all 0 t.entries own_run.ascending)

    pub lacked_first : (r : Option F) → option_map entry r ≡ first_lacking b (newer_entries b.after t.entries) → IfSome r (λ f. IsFirst (IsMissing b) t.entries (entry f))
    lacked_first None is = tt
    lacked_first (Some f) is = lacked_as (Some f) is

    pub lacked_none : (r : Option F) → option_map entry r ≡ first_lacking b (newer_entries b.after t.entries) → IfNone r ((own : Entry) → Stands t.entries own → IsMissing b own → ⊥)
    lacked_none None is = lacked_as None is
    lacked_none (Some f) is = tt
