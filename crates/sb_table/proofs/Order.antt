-- The order of entries by version, and that no key stands twice, in parts of a list and in lists joined.
use Rattle.std.proofs.Common.{◌≡◌, ℕ, suc, zero, ◌<◌, ◌≤◌, Bool, true, false, cond, not, List, [], ◌∷◌, ◌++◌, take, filter, inl, inr, ⊎_elim, refl, sym, ap, ◌∙◌, nat_lt, arith, lt-ltb, ltb-true}
use Rattle.std.proofs.lemmas.Bool.{and_parts, and_from, not_from_false}
use Rattle.sb_types.specs.Records.{Entry}
use Rattle.sb_types.specs.Runs.{Stands, are_ascending, has_key, are_distinct, last_version, newer_entries, entries_after, IsRun}
use Rattle.sb_types.proofs.Standing.{either, taken, of_kept, lacks, not_there, of_above}

-- ---- ascending

pub lower : (a b : ℕ) (es : List Entry) → a ≤ b → are_ascending b es ≡ true → are_ascending a es ≡ true
lower a b [] l h = refl
lower a b (x ∷ xs) l h =
    let first = ltb-true b x.version (and_parts _ _ h).0 in
    and_from _ _ (lt-ltb a x.version (omega arith)) (and_parts _ _ h).1

pub behind : (a : ℕ) (es : List Entry) (e : Entry) → are_ascending a es ≡ true → Stands es e → a < e.version
behind a [] e h s = absurd s
behind a (x ∷ xs) e h (inl p) = omega (arith, ltb-true a x.version (and_parts _ _ h).0, ap (λ (y : Entry). y.version) p)
behind a (x ∷ xs) e h (inr s) = omega (arith, ltb-true a x.version (and_parts _ _ h).0, behind x.version xs e (and_parts _ _ h).1 s)

pub least : (a : ℕ) (es : List Entry) → are_ascending a es ≡ true → a ≤ last_version a es
least a [] h = omega arith
least a (x ∷ xs) h = omega (arith, ltb-true a x.version (and_parts _ _ h).0, least x.version xs (and_parts _ _ h).1)

pub greatest : (a : ℕ) (es : List Entry) (e : Entry) → are_ascending a es ≡ true → Stands es e → e.version ≤ last_version a es
greatest a [] e h s = absurd s
greatest a (x ∷ xs) e h (inl p) = omega (arith, least x.version xs (and_parts _ _ h).1, ap (λ (y : Entry). y.version) p)
greatest a (x ∷ xs) e h (inr s) = greatest x.version xs e (and_parts _ _ h).1 s

pub at_most : (a m : ℕ) (es : List Entry) → a ≤ m → ((e : Entry) → Stands es e → e.version ≤ m) → last_version a es ≤ m
at_most a m [] l each = l
at_most a m (x ∷ xs) l each = at_most x.version m xs (each x (inl refl)) (λ e s. each e (inr s))

sifted : (b : Bool) (a : ℕ) (x : Entry) (xs : List Entry) → a < x.version → are_ascending x.version xs ≡ true → are_ascending a (cond b (x ∷ xs) xs) ≡ true
sifted true a x xs l h = and_from _ _ (lt-ltb a x.version l) h
sifted false a x xs l h = lower a x.version xs (omega arith) h

pub ascending_kept : (p : Entry → Bool) (a : ℕ) (es : List Entry) → are_ascending a es ≡ true → are_ascending a (filter p es) ≡ true
ascending_kept p a [] h = refl
ascending_kept p a (x ∷ xs) h =
    sifted (p x) a x (filter p xs) (ltb-true a x.version (and_parts _ _ h).0) (ascending_kept p x.version xs (and_parts _ _ h).1)

pub ascending_taken : (n a : ℕ) (es : List Entry) → are_ascending a es ≡ true → are_ascending a (take n es) ≡ true
ascending_taken zero a es h = refl
ascending_taken (suc n) a [] h = refl
ascending_taken (suc n) a (x ∷ xs) h = and_from _ _ (and_parts _ _ h).0 (ascending_taken n x.version xs (and_parts _ _ h).1)

-- the versions alone say whether a list ascends
pub ascending_above : (a v : ℕ) (es : List Entry) → are_ascending a es ≡ true → ((e : Entry) → Stands es e → v < e.version) → are_ascending v es ≡ true
ascending_above a v [] h each = refl
ascending_above a v (x ∷ xs) h each = and_from _ _ (lt-ltb v x.version (each x (inl refl))) (and_parts _ _ h).1

pub ascending_joined : (a m : ℕ) (xs ys : List Entry) → a ≤ m → ((e : Entry) → Stands xs e → e.version ≤ m) → are_ascending a xs ≡ true → are_ascending m ys ≡ true → are_ascending a (xs ++ ys) ≡ true
ascending_joined a m [] ys l each h k = lower a m ys l k
ascending_joined a m (x ∷ xs) ys l each h k =
    and_from _ _ (and_parts _ _ h).0 (ascending_joined x.version m xs ys (each x (inl refl)) (λ e s. each e (inr s)) (and_parts _ _ h).1 k)

-- the first n entries are all those up to the last of them
pub front_whole : (n a : ℕ) (es : List Entry) (e : Entry) → are_ascending a es ≡ true → Stands es e → e.version ≤ last_version a (take n es) → Stands (take n es) e
front_whole zero a es e h s l = absurd (omega (arith, behind a es e h s))
front_whole (suc n) a [] e h s l = absurd s
front_whole (suc n) a (x ∷ xs) e h (inl p) l = inl p
front_whole (suc n) a (x ∷ xs) e h (inr s) l = inr (front_whole n x.version xs e (and_parts _ _ h).1 s l)

-- ---- keys apart

pub one_key : (es : List Entry) (x y : Entry) → are_distinct es ≡ true → Stands es x → Stands es y → x.key ≡ y.key → x ≡ y
one_key [] x y d s t k = absurd s
one_key (e ∷ es) x y d (inl p) (inl q) k = sym p ∙ q
one_key (e ∷ es) x y d (inl p) (inr t) k = absurd (not_there e.key es y (and_parts _ _ d).0 t (sym (ap (λ (z : Entry). z.key) p ∙ k)))
one_key (e ∷ es) x y d (inr s) (inl q) k = absurd (not_there e.key es x (and_parts _ _ d).0 s (k ∙ sym (ap (λ (z : Entry). z.key) q)))
one_key (e ∷ es) x y d (inr s) (inr t) k = one_key es x y (and_parts _ _ d).1 s t k

-- the list begins with a key that does not stand in the rest
new_key : (x : Entry) (xs : List Entry) → are_distinct xs ≡ true → ((e : Entry) → Stands xs e → e.key ≡ x.key → ⊥) → are_distinct (x ∷ xs) ≡ true
new_key x xs d apart = and_from _ _ (not_from_false _ (lacks x.key xs apart)) d

sifted_keys : (b : Bool) (x : Entry) (xs : List Entry) → are_distinct xs ≡ true → ((e : Entry) → Stands xs e → e.key ≡ x.key → ⊥) → are_distinct (cond b (x ∷ xs) xs) ≡ true
sifted_keys true x xs d apart = new_key x xs d apart
sifted_keys false x xs d apart = d

pub distinct_kept : (p : Entry → Bool) (es : List Entry) → are_distinct es ≡ true → are_distinct (filter p es) ≡ true
distinct_kept p [] d = refl
distinct_kept p (x ∷ xs) d =
    sifted_keys (p x) x (filter p xs) (distinct_kept p xs (and_parts _ _ d).1)
    (λ e s k. not_there x.key xs e (and_parts _ _ d).0 (of_kept p xs e s).0 k)

pub distinct_taken : (n : ℕ) (es : List Entry) → are_distinct es ≡ true → are_distinct (take n es) ≡ true
distinct_taken zero es d = refl
distinct_taken (suc n) [] d = refl
distinct_taken (suc n) (x ∷ xs) d =
    new_key x (take n xs) (distinct_taken n xs (and_parts _ _ d).1)
    (λ e s k. not_there x.key xs e (and_parts _ _ d).0 (taken n xs e s) k)

pub distinct_joined : (xs ys : List Entry) → are_distinct xs ≡ true → are_distinct ys ≡ true → ((x y : Entry) → Stands xs x → Stands ys y → x.key ≡ y.key → ⊥) → are_distinct (xs ++ ys) ≡ true
distinct_joined [] ys d f apart = f
distinct_joined (x ∷ xs) ys d f apart =
    new_key x (xs ++ ys) (distinct_joined xs ys (and_parts _ _ d).1 f (λ e y s t k. apart e y (inr s) t k))
    (λ e s k. ⊎_elim (λ l. not_there x.key xs e (and_parts _ _ d).0 l k) (λ r. apart x e (inl refl) r (sym k)) (either xs ys e s))

-- ---- runs

pub run_after : {a u : ℕ} {es : List Entry} (e : Entry) → IsRun a u es → Stands es e → a < e.version
run_after {a} {u} {es} e r s = behind a es e r.ascending s

pub run_upto : {a u : ℕ} {es : List Entry} (e : Entry) → IsRun a u es → Stands es e → e.version ≤ u
run_upto {a} {u} {es} e r s = omega (arith, greatest a es e r.ascending s, r.most)

pub run_one : {a u : ℕ} {es : List Entry} (x y : Entry) → IsRun a u es → Stands es x → Stands es y → x.key ≡ y.key → x ≡ y
run_one {a} {u} {es} x y r s t k = one_key es x y r.distinct s t k

pub run_order : {a u : ℕ} {es : List Entry} → IsRun a u es → a ≤ u
run_order {a} {u} {es} r = omega (arith, least a es r.ascending, r.most)

pub run_kept : {a u : ℕ} {es : List Entry} (p : Entry → Bool) → IsRun a u es → IsRun a u (filter p es)
run_kept {a} {u} {es} p r = record {
  ascending = ascending_kept p a es r.ascending;
  most = at_most a u (filter p es) (run_order r) (λ e s. run_upto e r (of_kept p es e s).0);
  distinct = distinct_kept p es r.distinct;
}

pub run_above : {a u : ℕ} {es : List Entry} (v : ℕ) → v ≤ u → IsRun a u es → IsRun v u (newer_entries v es)
run_above {a} {u} {es} v l r =
    let k = run_kept (λ entry. nat_lt v entry.version) r in
    record {
      ascending = ascending_above a v (newer_entries v es) k.ascending (λ e s. (of_above v es e s).1);
      most = at_most v u (newer_entries v es) l (λ e s. run_upto e k s);
      distinct = k.distinct;
    }

pub run_front : {a u : ℕ} {es : List Entry} (n : ℕ) → IsRun a u es → IsRun a (last_version a (take n es)) (take n es)
run_front {a} {u} {es} n r = record {
  ascending = ascending_taken n a es r.ascending;
  most = omega arith;
  distinct = distinct_taken n es r.distinct;
}

pub front_most : {a u : ℕ} {es : List Entry} (n : ℕ) → IsRun a u es → last_version a (take n es) ≤ u
front_most {a} {u} {es} n r = at_most a u (take n es) (run_order r) (λ e s. run_upto e r (taken n es e s))

-- entries of two lists whose keys differ, one above the other
pub run_joined : {a m u : ℕ} {xs ys : List Entry} → IsRun a m xs → IsRun m u ys → ((x y : Entry) → Stands xs x → Stands ys y → x.key ≡ y.key → ⊥) → IsRun a u (xs ++ ys)
run_joined {a} {m} {u} {xs} {ys} r t apart = record {
  ascending = ascending_joined a m xs ys (run_order r) (λ e s. run_upto e r s) r.ascending t.ascending;
  most = at_most a u (xs ++ ys) (omega (arith, run_order r, run_order t))
      (λ e s. ⊎_elim (λ l. omega (arith, run_upto e r l, run_order t)) (λ q. run_upto e t q) (either xs ys e s));
  distinct = distinct_joined xs ys r.distinct t.distinct apart;
}

pub run_entered : {a m u : ℕ} {es bs : List Entry} → IsRun a m es → IsRun m u bs → IsRun a u (entries_after es bs)
run_entered {a} {m} {u} {es} {bs} r t =
    run_joined (run_kept (λ entry. not (has_key entry.key bs)) r) t
    (λ x y s b k. not_there x.key bs y (of_kept _ es x s).1 b (sym k))
