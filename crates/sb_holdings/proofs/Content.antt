-- What a log of all writes has is true, and is a table.
use Rattle.std.proofs.Common.{◌≡◌, ℕ, ◌<◌, ◌≤◌, true, false, List, [], ◌∷◌, length, ◌⊎◌, inl, inr, ⊎_elim, refl, sym, ap, ◌∙◌, arith, ltb-true, nat_lt}
use Rattle.std.proofs.lemmas.Bool.{and_parts, and_from, cond_both, not_from_false, false≢true}
use Rattle.sb_types.proofs.Live.{live-live}
use Rattle.sb_types.specs.declared.entry.Write.{Write}
use Rattle.sb_types.specs.Records.{Entry}
use Rattle.sb_types.specs.Runs.{Stands, are_ascending, are_distinct, has_key, IsRun, IsTable}
use Rattle.sb_types.specs.Writes.{Tells, Holds}
use Rattle.sb_holdings.specs.Contents.{entries_of_writes, last_each, content_table}
use Rattle.sb_types.proofs.Standing.{keyed, has, lacks}
use Rattle.sb_table.proofs.Order.{lower, behind, at_most, run_kept}
use Rattle.sb_holdings.proofs.Telling.{tells_live, within_writes}
use Rattle.sb_holdings.proofs.Numbered.{in_numbered, of_numbered, numbered_ascends}

-- what stands among the last is the first, and no other has its key, or it stands among the last of the rest
last_cases : (x : Entry) (xs : List Entry) (e : Entry) → Stands (last_each (x ∷ xs)) e → ((x ≡ e) × (has_key x.key xs ≡ false)) ⊎ Stands (last_each xs) e
last_cases x xs e s =
    cond_both (has_key x.key xs) (last_each xs) (x ∷ last_each xs) (λ es. Stands es e → ((x ≡ e) × (has_key x.key xs ≡ false)) ⊎ Stands (last_each xs) e)
    (λ _ r. inr r)
    (λ new p. ⊎_elim (λ q. inl (q, new)) inr p)
    s

last_stands : (es : List Entry) (e : Entry) → Stands (last_each es) e → Stands es e
last_stands [] e s = absurd s
last_stands (x ∷ xs) e s = ⊎_elim (λ h. inl h.0) (λ r. inr (last_stands xs e r)) (last_cases x xs e s)

pub ascending_last : (a : ℕ) (es : List Entry) → are_ascending a es ≡ true → are_ascending a (last_each es) ≡ true
ascending_last a [] h = refl
ascending_last a (x ∷ xs) h =
    let p = and_parts (nat_lt a x.version) (are_ascending x.version xs) h in
    let rest = ascending_last x.version xs p.1 in
    cond_both (has_key x.key xs) (last_each xs) (x ∷ last_each xs) (λ es. are_ascending a es ≡ true)
    (λ _. lower a x.version (last_each xs) (omega (arith, ltb-true a x.version p.0)) rest)
    (λ _. and_from _ _ p.0 rest)

distinct_last : (es : List Entry) → are_distinct (last_each es) ≡ true
distinct_last [] = refl
distinct_last (x ∷ xs) =
    cond_both (has_key x.key xs) (last_each xs) (x ∷ last_each xs) (λ es. are_distinct es ≡ true)
    (λ _. distinct_last xs)
    (λ new. and_from _ _ (not_from_false _ (lacks x.key (last_each xs) (λ e s k. false≢true (sym new ∙ has x.key xs e (last_stands xs e s) k)))) (distinct_last xs))

-- an entry is its key's last, or one of its key is above it
abbrev LastOrNot : List Entry → List Entry → Entry → Type 0
LastOrNot es lasts e = Stands lasts e ⊎ ((b : Entry) × Stands es b × (b.key ≡ e.key) × (e.version < b.version))

last_or_not : (a : ℕ) (es : List Entry) (e : Entry) → are_ascending a es ≡ true → Stands es e → LastOrNot es (last_each es) e
last_or_not a [] e h s = absurd s
last_or_not a (x ∷ xs) e h (inl p) =
    cond_both (has_key x.key xs) (last_each xs) (x ∷ last_each xs) (λ lasts. LastOrNot (x ∷ xs) lasts e)
    (λ again.
    let k = keyed x.key xs again in
    let newer = behind x.version xs k.0 (and_parts (nat_lt a x.version) (are_ascending x.version xs) h).1 k.1 in
    inr (k.0, inr k.1, k.2 ∙ ap (λ (y : Entry). y.key) p, omega (arith, newer, ap (λ (y : Entry). y.version) p)))
    (λ _. inl (inl p))
last_or_not a (x ∷ xs) e h (inr s) =
    let rest = last_or_not x.version xs e (and_parts (nat_lt a x.version) (are_ascending x.version xs) h).1 s in
    cond_both (has_key x.key xs) (last_each xs) (x ∷ last_each xs) (λ lasts. LastOrNot (x ∷ xs) lasts e)
    (λ _. ⊎_elim inl (λ b. inr (b.0, inr b.1, b.2, b.3)) rest)
    (λ _. ⊎_elim (λ l. inl (inr l)) (λ b. inr (b.0, inr b.1, b.2, b.3)) rest)

-- and none of its key is above the last
last_greatest : (a : ℕ) (es : List Entry) (x e : Entry) → are_ascending a es ≡ true → Stands (last_each es) x → Stands es e → e.key ≡ x.key → e.version ≤ x.version
last_greatest a [] x e h s t k = absurd t
last_greatest a (y ∷ ys) x e h s (inl p) k =
    let newer = behind y.version ys x (and_parts (nat_lt a y.version) (are_ascending y.version ys) h).1 in
    ⊎_elim
    (λ q. omega (arith, ap (λ (z : Entry). z.version) (sym q.0 ∙ p)))
    (λ r. omega (arith, newer (last_stands ys x r), ap (λ (z : Entry). z.version) p))
    (last_cases y ys x s)
last_greatest a (y ∷ ys) x e h s (inr t) k =
    ⊎_elim
    (λ q. absurd (false≢true (sym q.1 ∙ has y.key ys e t (k ∙ sym (ap (λ (z : Entry). z.key) q.0)))))
    (λ r. last_greatest y.version ys x e (and_parts (nat_lt a y.version) (are_ascending y.version ys) h).1 r t k)
    (last_cases y ys x s)

module _ (writes : List Write) where
  last_run : IsRun 0 (length writes) (last_each (entries_of_writes 0 writes))
  last_run = record {
    ascending = ascending_last 0 (entries_of_writes 0 writes) (numbered_ascends 0 writes);
    most = at_most 0 (length writes) (last_each (entries_of_writes 0 writes)) (omega arith) (λ e s. within_writes e (of_numbered writes e (last_stands _ e s)));
    distinct = distinct_last (entries_of_writes 0 writes);
  }

  last_tells : (floor : ℕ) → floor ≤ length writes → Tells writes floor 0 (length writes) (last_each (entries_of_writes 0 writes))
  last_tells floor l = record {
    reach = omega arith;
    reach_floor = l;
    true_each = λ e s. of_numbered writes e (last_stands _ e s);
    whole = λ e w lo hi. ⊎_elim inl
        (λ b. inr (inl (b.0, of_numbered writes b.0 b.1, b.2, b.3)))
        (last_or_not 0 (entries_of_writes 0 writes) e (numbered_ascends 0 writes) (in_numbered writes e w));
    past = λ e x w g s k o. absurd (omega (arith, o, last_greatest 0 (entries_of_writes 0 writes) x e (numbered_ascends 0 writes) s (in_numbered writes e w) (sym k)));
  }

  pub content_is : (floor : ℕ) → floor ≤ length writes → IsTable (content_table floor writes)
  content_is floor l = record { run = run_kept _ last_run; floor = l; live = live-live floor (last_each (entries_of_writes 0 writes)) }

  pub content_tells : (floor : ℕ) → floor ≤ length writes → Holds writes (content_table floor writes)
  content_tells floor l = tells_live (last_tells floor l)
