-- What entering an entry in place of its key's does to keys and counts.
use Rattle.std.proofs.Common.{◌≡◌, ℕ, ◌<◌, ◌≤◌, Bool, true, false, not, ◌&&◌, List, [], ◌∷◌, ◌++◌, length, filter, nat_eq, nat_le, refl, ap, arith, length-append}
use Rattle.std.proofs.lemmas.Bool.{and_parts, leb-true, not-true}
use Rattle.std.proofs.lemmas.Bool.Decides.{nat_tests}
use Rattle.std.proofs.lemmas.Cmp.{nat_list_eq_equiv}
use Rattle.std.proofs.lemmas.List.Folds.{list_any-append}
use Rattle.std.specs.Cmp.Lexicographic.{pointwise}
use Rattle.sb_types.specs.Records.{Entry}
use Rattle.sb_types.specs.Runs.{has_key, are_distinct, entries_without_keys, entries_after}

has_key-filter : (p : Entry → Bool) (key : List ℕ) (es : List Entry) → has_key key es ≡ false → has_key key (filter p es) ≡ false
has_key-filter p key [] none = refl
has_key-filter p key (x ∷ xs) none = grind (arith, has_key-filter p key xs)

pub are_distinct-filter : (p : Entry → Bool) (es : List Entry) → are_distinct es ≡ true → are_distinct (filter p es) ≡ true
are_distinct-filter p [] apart = refl
are_distinct-filter p (x ∷ xs) apart = grind (arith, has_key-filter p x.key xs, are_distinct-filter p xs)

are_distinct-push : (es : List Entry) (e : Entry) → are_distinct es ≡ true → has_key e.key es ≡ false → are_distinct (es ++ e ∷ []) ≡ true
are_distinct-push [] e apart new = refl
are_distinct-push (x ∷ xs) e apart new =
    grind (arith, are_distinct-push xs e, list_any-append (λ y. pointwise nat_eq y.key x.key) xs (e ∷ []), nat_list_eq_equiv.symm e.key x.key)

pub has_key-without : (e : Entry) (es : List Entry) → has_key e.key (entries_without_keys (e ∷ []) es) ≡ false
has_key-without e [] = refl
has_key-without e (x ∷ xs) = grind (arith, has_key-without e xs, nat_list_eq_equiv.symm e.key x.key)

pub are_distinct-entered : (es : List Entry) (e : Entry) → are_distinct es ≡ true → are_distinct (entries_after es (e ∷ [])) ≡ true
are_distinct-entered es e apart = are_distinct-push (entries_without_keys (e ∷ []) es) e (are_distinct-filter _ es apart) (has_key-without e es)

pub without-none : (e : Entry) (es : List Entry) → has_key e.key es ≡ false → entries_without_keys (e ∷ []) es ≡ es
without-none e [] none = refl
without-none e (x ∷ xs) none = grind (arith, without-none e xs, nat_list_eq_equiv.symm e.key x.key)

length-without_le : (e : Entry) (es : List Entry) → length (entries_without_keys (e ∷ []) es) ≤ length es
length-without_le e [] = omega arith
length-without_le e (x ∷ xs) = grind (arith, length-without_le e xs)

length-without_lt : (e : Entry) (es : List Entry) → has_key e.key es ≡ true → length (entries_without_keys (e ∷ []) es) < length es
length-without_lt e [] some = absurd (cc)
length-without_lt e (x ∷ xs) some = grind (arith, length-without_le e xs, length-without_lt e xs, nat_list_eq_equiv.symm e.key x.key)

pub length-entered : (e : Entry) (es : List Entry) (most : ℕ) → length es ≤ most → (not (has_key e.key es) && nat_le most (length es)) ≡ false → length (entries_after es (e ∷ [])) ≤ most
length-entered e es most le room =
    grind (arith, nat_tests, length-append (entries_without_keys (e ∷ []) es) (e ∷ []), length-without_lt e es, length-without_le e es)

pub length-entered_full : (e : Entry) (es : List Entry) (most : ℕ) → (not (has_key e.key es) && nat_le most (length es)) ≡ true → most < length (entries_after es (e ∷ []))
length-entered_full e es most full =
    let parts = and_parts (not (has_key e.key es)) (nat_le most (length es)) full in
    let none = without-none e es (not-true (has_key e.key es) parts.0) in
    omega (arith, leb-true most (length es) parts.1, length-append (entries_without_keys (e ∷ []) es) (e ∷ []), ap length none)
