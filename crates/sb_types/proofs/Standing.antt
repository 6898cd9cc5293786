-- What stands in a list, and in the parts of a list of entries.
use Rattle.std.proofs.Common.{◌≡◌, ℕ, suc, zero, ◌<◌, ◌≤◌, Bool, true, false, cond, not, ◌||◌, List, [], ◌∷◌, ◌++◌, take, filter, ◌⊎◌, inl, inr, ⊎_elim, refl, sym, ap, ◌∙◌, nat_eq, nat_lt, lt-ltb, ltb-true, le-leb, leb-true, ltb-false}
use Rattle.std.proofs.lemmas.Bool.{or_cases, or_left, or_right, not-true, cases_Bool, false_from_ne_true, false≢true}
use Rattle.std.specs.Cmp.Lexicographic.{pointwise}
use Rattle.sb_types.specs.declared.entry.Slot.{Slot}
use Rattle.sb_types.specs.declared.entry.Slot.TheVariants.{Set, Removed}
use Rattle.sb_types.specs.Records.{Entry}
use Rattle.sb_types.specs.Runs.{Stands, has_key, newer_entries, entries_up_to, entries_without_keys, entries_with_keys, is_set, live_entries, entries_after}
use Rattle.sb_types.specs.Writes.{Gone}
use Rattle.sb_types.proofs.Texts.{same_text, text_same}

module _ {X : Type 0} where
  pub left : (xs ys : List X) (e : X) → Stands xs e → Stands (xs ++ ys) e
  left [] ys e s = absurd s
  left (x ∷ xs) ys e (inl p) = inl p
  left (x ∷ xs) ys e (inr s) = inr (left xs ys e s)

  pub right : (xs ys : List X) (e : X) → Stands ys e → Stands (xs ++ ys) e
  right [] ys e s = s
  right (x ∷ xs) ys e s = inr (right xs ys e s)

  pub either : (xs ys : List X) (e : X) → Stands (xs ++ ys) e → Stands xs e ⊎ Stands ys e
  either [] ys e s = inr s
  either (x ∷ xs) ys e (inl p) = inl (inl p)
  either (x ∷ xs) ys e (inr s) = ⊎_elim (λ l. inl (inr l)) inr (either xs ys e s)

  pub taken : (n : ℕ) (xs : List X) (e : X) → Stands (take n xs) e → Stands xs e
  taken zero xs e s = absurd s
  taken (suc n) [] e s = absurd s
  taken (suc n) (x ∷ xs) e (inl p) = inl p
  taken (suc n) (x ∷ xs) e (inr s) = inr (taken n xs e s)

  skipped : (b : Bool) (x : X) (xs : List X) (e : X) → Stands xs e → Stands (cond b (x ∷ xs) xs) e
  skipped true x xs e s = inr s
  skipped false x xs e s = s

  pub kept : (p : X → Bool) (xs : List X) (e : X) → Stands xs e → p e ≡ true → Stands (filter p xs) e
  kept p [] e s t = absurd s
  kept p (x ∷ xs) e (inl q) t = rw (ap p q ∙ t) (inl q)
  kept p (x ∷ xs) e (inr s) t = skipped (p x) x (filter p xs) e (kept p xs e s t)

  chosen : (b : Bool) (x : X) (xs : List X) (e : X) → Stands (cond b (x ∷ xs) xs) e → ((b ≡ true) × (x ≡ e)) ⊎ Stands xs e
  chosen true x xs e (inl p) = inl (refl, p)
  chosen true x xs e (inr s) = inr s
  chosen false x xs e s = inr s

  pub of_kept : (p : X → Bool) (xs : List X) (e : X) → Stands (filter p xs) e → Stands xs e × (p e ≡ true)
  of_kept p [] e s = absurd s
  of_kept p (x ∷ xs) e s =
      ⊎_elim (λ h. (inl h.1, sym (ap p h.1) ∙ h.0))
      (λ r. let k = of_kept p xs e r in (inr k.0, k.1))
      (chosen (p x) x (filter p xs) e s)

-- ---- keys

pub keyed : (key : List ℕ) (es : List Entry) → has_key key es ≡ true → (e : Entry) × Stands es e × (e.key ≡ key)
keyed key [] h = absurd (false≢true h)
keyed key (x ∷ xs) h =
    ⊎_elim (λ p. (x, inl refl, same_text x.key key p))
    (λ r. let k = keyed key xs r in (k.0, inr k.1, k.2))
    (or_cases (pointwise nat_eq x.key key) (has_key key xs) h)

pub has : (key : List ℕ) (es : List Entry) (e : Entry) → Stands es e → e.key ≡ key → has_key key es ≡ true
has key [] e s k = absurd s
has key (x ∷ xs) e (inl p) k = or_left _ _ (text_same x.key key (ap (λ (y : Entry). y.key) p ∙ k))
has key (x ∷ xs) e (inr s) k = or_right _ _ (has key xs e s k)

pub lacks : (key : List ℕ) (es : List Entry) → ((e : Entry) → Stands es e → e.key ≡ key → ⊥) → has_key key es ≡ false
lacks key es no_such = false_from_ne_true _ (λ h. let k = keyed key es h in no_such k.0 k.1 k.2)

pub not_there : (key : List ℕ) (es : List Entry) (e : Entry) → not (has_key key es) ≡ true → Stands es e → e.key ≡ key → ⊥
not_there key es e h s k = false≢true (sym (not-true _ h) ∙ has key es e s k)

-- ---- parts

pub in_above : (v : ℕ) (es : List Entry) (e : Entry) → Stands es e → v < e.version → Stands (newer_entries v es) e
in_above v es e s l = kept _ es e s (lt-ltb v e.version l)

pub of_above : (v : ℕ) (es : List Entry) (e : Entry) → Stands (newer_entries v es) e → Stands es e × (v < e.version)
of_above v es e s = let k = of_kept _ es e s in (k.0, ltb-true v e.version k.1)

pub in_within : (v : ℕ) (es : List Entry) (e : Entry) → Stands es e → e.version ≤ v → Stands (entries_up_to v es) e
in_within v es e s l = kept _ es e s (le-leb e.version v l)

pub of_within : (v : ℕ) (es : List Entry) (e : Entry) → Stands (entries_up_to v es) e → Stands es e × (e.version ≤ v)
of_within v es e s = let k = of_kept _ es e s in (k.0, leb-true e.version v k.1)

pub in_only : (os es : List Entry) (e o : Entry) → Stands es e → Stands os o → o.key ≡ e.key → Stands (entries_with_keys os es) e
in_only os es e o s t k = kept _ es e s (has e.key os o t k)

pub of_only : (os es : List Entry) (e : Entry) → Stands (entries_with_keys os es) e → Stands es e × ((o : Entry) × Stands os o × (o.key ≡ e.key))
of_only os es e s = let k = of_kept _ es e s in (k.0, keyed e.key os k.1)

-- an entry is a marker up to the floor, or it lives
lives : (slot : Slot) (floor version : ℕ) → ((is_set slot || nat_lt floor version) ≡ true) ⊎ ((slot ≡ Removed) × (version ≤ floor))
lives (Set value) floor version = inl refl
lives Removed floor version = ⊎_elim inl (λ h. inr (refl, ltb-false floor version h)) (cases_Bool (nat_lt floor version))

pub in_live : (floor : ℕ) (es : List Entry) (e : Entry) → Stands es e → Stands (live_entries floor es) e ⊎ Gone floor e
in_live floor es e s = ⊎_elim (λ h. inl (kept _ es e s h)) inr (lives e.slot floor e.version)

pub of_live : (floor : ℕ) (es : List Entry) (e : Entry) → Stands (live_entries floor es) e → Stands es e
of_live floor es e s = (of_kept _ es e s).0

pub in_entered : (es bs : List Entry) (e : Entry) → Stands es e → Stands (entries_after es bs) e ⊎ ((b : Entry) × Stands bs b × (b.key ≡ e.key))
in_entered es bs e s =
    ⊎_elim (λ h. inr (keyed e.key bs h))
    (λ h. inl (left (entries_without_keys bs es) bs e (kept _ es e s (ap not h))))
    (cases_Bool (has_key e.key bs))

pub of_entered : (es bs : List Entry) (e : Entry) → Stands (entries_after es bs) e → Stands es e ⊎ Stands bs e
of_entered es bs e s = ⊎_elim (λ l. inl (of_kept _ es e l).0) inr (either (entries_without_keys bs es) bs e s)
