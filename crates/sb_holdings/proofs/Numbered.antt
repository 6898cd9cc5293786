-- The entries of all writes, numbered: the written ones and no others; so it is decided whether one was superseded.
use Rattle.std.proofs.Common.{◌≡◌, ℕ, zero, suc, ◌+◌, ◌-◌, true, List, [], ◌∷◌, ◌⊎◌, inl, inr, ⊎_elim, refl, sym, ap, ◌∙◌, Some, slice_get, arith, lt-ltb}
use Rattle.std.proofs.lemmas.Bool.{cases_Bool, and_from, false≢true}
use Rattle.sb_types.specs.declared.entry.Write.{Write}
use Rattle.sb_types.specs.Records.{Entry}
use Rattle.sb_types.specs.Runs.{Stands, are_ascending, has_key, newer_entries}
use Rattle.sb_types.specs.Writes.{Written, Superseded}
use Rattle.sb_holdings.specs.Contents.{entries_of_writes}
use Rattle.sb_holdings.proofs.Telling.{same_parts}
use Rattle.sb_types.proofs.Standing.{keyed, has, in_above, of_above}

abbrev pub write_in : Entry → Write
write_in e = record { key = e.key; slot = e.slot }

placed : (v k : ℕ) (writes : List Write) (e : Entry) → e.version ≡ v + 1 + k → slice_get writes k ≡ Some (write_in e) → Stands (entries_of_writes v writes) e
placed v k [] e n f = absurd (cc)
placed v zero (w ∷ ws) e n f =
    let same : w ≡ write_in e = cc in
    inl (same_parts _ e (omega arith) (ap (λ (x : Write). x.key) same) (ap (λ (x : Write). x.slot) same))
placed v (suc k) (w ∷ ws) e n f = inr (placed (v + 1) k ws e (omega arith) f)

place : (v : ℕ) (writes : List Write) (e : Entry) → Stands (entries_of_writes v writes) e → (k : ℕ) × (e.version ≡ v + 1 + k) × (slice_get writes k ≡ Some (write_in e))
place v [] e s = absurd s
place v (w ∷ ws) e (inl p) = (0, omega (arith, ap (λ (x : Entry). x.version) p), ap (λ (x : Entry). Some (write_in x)) p)
place v (w ∷ ws) e (inr s) = let q = place (v + 1) ws e s in (suc q.0, omega (arith, q.1), q.2)

pub in_numbered : (writes : List Write) (e : Entry) → Written writes e → Stands (entries_of_writes 0 writes) e
in_numbered writes e w = placed 0 (e.version - 1) writes e (omega (arith, w.counted)) w.found

pub of_numbered : (writes : List Write) (e : Entry) → Stands (entries_of_writes 0 writes) e → Written writes e
of_numbered writes e s =
    let q = place 0 writes e s in
    record {
      counted = omega (arith, q.1);
      found = let n : e.version - 1 ≡ q.0 = omega (arith, q.1) in rw n q.2;
    }

pub numbered_ascends : (v : ℕ) (writes : List Write) → are_ascending v (entries_of_writes v writes) ≡ true
numbered_ascends v [] = refl
numbered_ascends v (w ∷ ws) = and_from _ _ (lt-ltb v (v + 1) (omega arith)) (numbered_ascends (v + 1) ws)

-- ---- whether a key was written again

pub superseded_or_last : (writes : List Write) (e : Entry) → Superseded writes e ⊎ (Superseded writes e → ⊥)
superseded_or_last writes e =
    ⊎_elim
    (λ h. let k = keyed e.key later h in
    let a = of_above e.version (entries_of_writes 0 writes) k.0 k.1 in
    inl (k.0, of_numbered writes k.0 a.0, k.2, a.1))
    (λ h. inr (λ s. false≢true (sym h ∙ has e.key later s.0 (in_above e.version (entries_of_writes 0 writes) s.0 (in_numbered writes s.0 s.1) s.3) s.2)))
    (cases_Bool (has_key e.key later))
  where
    later : List Entry
    later = newer_entries e.version (entries_of_writes 0 writes)
