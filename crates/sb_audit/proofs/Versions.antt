-- The entry of a version.
use Rattle.std.proofs.Common.{◌≡◌, ℕ, ◌-◌, ◌≤◌, Bool, true, false, cond, List, [], ◌∷◌, inl, inr, ⊎_elim, ◌⊎◌, refl, sym, ap, subst, ◌∙◌, slice_get, nat_eq, nat_lt, Option, Some, None, arith, ltb-true, ltb-false}
use Rattle.std.proofs.lemmas.Bool.{and_parts, cases_Bool, cond-true, cond-false, cond_both, false_from_ne_true, eqb-true, eq-eqb}
use Rattle.std.specs.Option.{option_map}
use Rattle.sb_types.specs.declared.entry.Slot.{Slot}
use Rattle.sb_types.specs.Records.{Entry}
use Rattle.sb_types.specs.Runs.{Stands, are_ascending, newer_entries, entry_at}
use Rattle.sb_table.specs.Plain.{version_and_slot}
use Rattle.sb_table.proofs.Lookup.{Stands-entry_at}
use Rattle.sb_table.proofs.Order.{behind}
use Rattle.sb_audit.specs.Search.{entry_of}

first_found : (b : Bool) (x : Entry) (o : Option Entry) (e : Entry) → cond b (Some x) o ≡ Some e → ((b ≡ true) × (x ≡ e)) ⊎ (o ≡ Some e)
first_found true x o e f = inl (refl, cc)
first_found false x o e f = inr f

pub version_apart : (v w : ℕ) → (v ≡ w → ⊥) → nat_eq v w ≡ false
version_apart v w apart = false_from_ne_true _ (λ h. apart (eqb-true v w h))

pub version_same : (v w : ℕ) → v ≡ w → nat_eq v w ≡ true
version_same v w same = eq-eqb v w same

-- what is found stands under the version
pub found_stands : (v : ℕ) (es : List Entry) (e : Entry) → entry_of v es ≡ Some e → Stands es e × (e.version ≡ v)
found_stands v [] e f = absurd (cc)
found_stands v (x ∷ xs) e f =
    ⊎_elim (λ h. (inl h.1, sym (ap (λ (y : Entry). y.version) h.1) ∙ eqb-true x.version v h.0))
    (λ r. let k = found_stands v xs e r in (inr k.0, k.1))
    (first_found (nat_eq x.version v) x (entry_of v xs) e f)

-- and what stands is found
pub stands_found : (a : ℕ) (es : List Entry) (e : Entry) → are_ascending a es ≡ true → Stands es e → entry_of e.version es ≡ Some e
stands_found a [] e up s = absurd s
stands_found a (x ∷ xs) e up (inl p) = cond-true _ _ _ (version_same x.version e.version (ap (λ (y : Entry). y.version) p)) ∙ ap Some p
stands_found a (x ∷ xs) e up (inr s) =
    let rest = (and_parts (nat_lt a x.version) (are_ascending x.version xs) up).1 in
    cond-false _ _ _ (version_apart x.version e.version (λ p. omega (arith, behind x.version xs e rest s, p))) ∙ stands_found x.version xs e rest s

-- below the first version nothing is found
none_below : (v a : ℕ) (es : List Entry) → v ≤ a → are_ascending a es ≡ true → entry_of v es ≡ None
none_below v a [] l up = refl
none_below v a (x ∷ xs) l up =
    let parts = and_parts (nat_lt a x.version) (are_ascending x.version xs) up in
    let later = ltb-true a x.version parts.0 in
    cond-false _ _ _ (version_apart x.version v (λ p. omega (arith, later, p))) ∙ none_below v x.version xs (omega (arith, later)) parts.1

-- the first entry, if it has this version
abbrev pub front_of : ℕ → List Entry → Option Entry
front_of v [] = None
front_of v (x ∷ xs) = cond (nat_eq x.version v) (Some x) None

-- it is the first of those that are not below
above_from : (v a : ℕ) (es : List Entry) → 1 ≤ v → are_ascending a es ≡ true → entry_of v es ≡ front_of v (newer_entries (v - 1) es)
above_from v a [] one up = refl
above_from v a (x ∷ xs) one up =
    let parts = and_parts (nat_lt a x.version) (are_ascending x.version xs) up in
    ⊎_elim
    (λ above.
    let higher = ltb-true (v - 1) x.version above in
    let other : nat_eq x.version v ≡ false → entry_of v xs ≡ None =
    (λ apart. none_below v x.version xs (omega (arith, higher, one)) parts.1) in
    cond_both (nat_eq x.version v) (Some x) (entry_of v xs) (λ (o : Option Entry). o ≡ front_of v (x ∷ newer_entries (v - 1) xs))
    (λ same. sym (cond-true _ (Some x) None same))
    (λ apart. other apart ∙ sym (cond-false _ (Some x) None apart))
    ∙ sym (ap (front_of v) (cond-true _ (x ∷ newer_entries (v - 1) xs) (newer_entries (v - 1) xs) above)))
    (λ below.
    let lower_one = ltb-false (v - 1) x.version below in
    cond-false _ (Some x) (entry_of v xs) (version_apart x.version v (λ p. omega (arith, lower_one, one, p)))
    ∙ above_from v x.version xs one parts.1
    ∙ sym (ap (front_of v) (cond-false _ (x ∷ newer_entries (v - 1) xs) (newer_entries (v - 1) xs) below)))
    (cases_Bool (nat_lt (v - 1) x.version))

pub entry_above : (v : ℕ) (es : List Entry) → 1 ≤ v → are_ascending 0 es ≡ true → entry_of v es ≡ front_of v (newer_entries (v - 1) es)
entry_above v es one up = above_from v 0 es one up

pub front_none : (v : ℕ) (es : List Entry) → slice_get es 0 ≡ None → front_of v es ≡ None
front_none v [] none = refl
front_none v (x ∷ xs) none = absurd (cc)

pub front_same : (v : ℕ) (es : List Entry) (e : Entry) → slice_get es 0 ≡ Some e → e.version ≡ v → front_of v es ≡ Some e
front_same v [] e first same = absurd (cc)
front_same v (x ∷ xs) e first same =
    let is : x ≡ e = (let some : Some x ≡ Some e = first in cc) in
    cond-true _ (Some x) None (version_same x.version v (ap (λ (y : Entry). y.version) is ∙ same)) ∙ ap Some is

pub front_apart : (v : ℕ) (es : List Entry) (e : Entry) → slice_get es 0 ≡ Some e → nat_eq e.version v ≡ false → front_of v es ≡ None
front_apart v [] e first apart = absurd (cc)
front_apart v (x ∷ xs) e first apart =
    let is : x ≡ e = (let some : Some x ≡ Some e = first in cc) in
    cond-false _ (Some x) None (ap (λ (y : Entry). nat_eq y.version v) is ∙ apart)

abbrev version_in : Option (ℕ × Slot) → ℕ
version_in None = 0
version_in (Some p) = p.0

-- the entry of a key is that of its version
module _ (key : List ℕ) (es : List Entry) (up : are_ascending 0 es ≡ true) where
  kept_at : (v : ℕ) (slot : Slot) (o : Option Entry) → entry_at key es ≡ o → Some (v, slot) ≡ option_map version_and_slot o → (1 ≤ v) × (entry_of v es ≡ o)
  kept_at v slot None found is = absurd (cc)
  kept_at v slot (Some e) found is =
      let same : v ≡ e.version = ap version_in is in
      let stands = Stands-entry_at key es e found in
      (omega (arith, behind 0 es e up stands, same), subst (λ (n : ℕ). entry_of n es ≡ Some e) (sym same) (stands_found 0 es e up stands))

  pub kept_version : (v : ℕ) (slot : Slot) → Some (v, slot) ≡ option_map version_and_slot (entry_at key es) → 1 ≤ v
  kept_version v slot is = (kept_at v slot (entry_at key es) refl is).0

  pub kept_entry : (v : ℕ) (slot : Slot) → Some (v, slot) ≡ option_map version_and_slot (entry_at key es) → entry_of v es ≡ entry_at key es
  kept_entry v slot is = (kept_at v slot (entry_at key es) refl is).1

pub none_kept : (key : List ℕ) (es : List Entry) → ◌≡◌ {A = Option (ℕ × Slot)} None (option_map version_and_slot (entry_at key es)) → ◌≡◌ {A = Option Entry} None (entry_at key es)
none_kept key es is = none_of (entry_at key es) is
  where
    none_of : (o : Option Entry) → ◌≡◌ {A = Option (ℕ × Slot)} None (option_map version_and_slot o) → ◌≡◌ {A = Option Entry} None o
    none_of None is = refl
    none_of (Some e) is = absurd (cc)
