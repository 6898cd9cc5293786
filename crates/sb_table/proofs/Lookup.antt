-- What is found under a key.
use Rattle.std.proofs.Common.{◌≡◌, ◌≢◌, ℕ, true, false, inl, inr, List, [], ◌∷◌, nat_eq, Some, None, refl, subst, arith}
use Rattle.std.proofs.lemmas.Bool.{or_parts}
use Rattle.std.proofs.lemmas.Cmp.{nat_list_eq_equiv}
use Rattle.std.specs.Cmp.Lexicographic.{pointwise, bytes_decides}
use Rattle.sb_types.specs.Records.{Entry}
use Rattle.sb_types.specs.Runs.{Stands, are_distinct, entries_after, entry_at, has_key}

pub Stands-entry_at : (key : List ℕ) (es : List Entry) (e : Entry) → entry_at key es ≡ Some e → Stands es e
Stands-entry_at key [] e found = absurd (cc)
Stands-entry_at key (x ∷ xs) e found = grind (arith, Stands-entry_at key xs e)

pub key-entry_at : (key : List ℕ) (es : List Entry) (e : Entry) → entry_at key es ≡ Some e → e.key ≡ key
key-entry_at key [] e found = absurd (cc)
key-entry_at key (x ∷ xs) e found = grind (arith, key-entry_at key xs e, bytes_decides x.key key)

pub apart_from : (key : List ℕ) (xs : List Entry) (e : Entry) → has_key key xs ≡ false → Stands xs e → pointwise nat_eq e.key key ≡ false
apart_from key [] e none stands = absurd stands
apart_from key (x ∷ xs) e none (inl same) = subst (λ (y : Entry). pointwise nat_eq y.key key ≡ false) same (or_parts (pointwise nat_eq x.key key) (has_key key xs) none).0
apart_from key (x ∷ xs) e none (inr behind) = apart_from key xs e (or_parts (pointwise nat_eq x.key key) (has_key key xs) none).1 behind

pub entry_at-stands : (es : List Entry) (e : Entry) → are_distinct es ≡ true → Stands es e → entry_at e.key es ≡ Some e
entry_at-stands [] e apart stands = absurd stands
entry_at-stands (x ∷ xs) e apart (inl same) =
    let here : entry_at x.key (x ∷ xs) ≡ Some x = grind (arith, nat_list_eq_equiv.refl x.key) in
    subst (λ (y : Entry). entry_at y.key (x ∷ xs) ≡ Some y) same here
entry_at-stands (x ∷ xs) e apart (inr behind) =
    grind (arith, nat_list_eq_equiv.symm x.key e.key, apart_from x.key xs e, entry_at-stands xs e)

pub entry_at-none : (key : List ℕ) (es : List Entry) → has_key key es ≡ false → entry_at key es ≡ None
entry_at-none key [] none = refl
entry_at-none key (x ∷ xs) none = grind (arith, entry_at-none key xs)

pub entry_at-entered_same : (es : List Entry) (e : Entry) → entry_at e.key (entries_after es (e ∷ [])) ≡ Some e
entry_at-entered_same [] e = grind (arith, nat_list_eq_equiv.refl e.key)
entry_at-entered_same (x ∷ xs) e = grind (arith, nat_list_eq_equiv.symm x.key e.key, entry_at-entered_same xs e)

pub entry_at-entered_other : (key : List ℕ) (es : List Entry) (e : Entry) → key ≢ e.key → entry_at key (entries_after es (e ∷ [])) ≡ entry_at key es
entry_at-entered_other key [] e other = grind (arith, bytes_decides e.key key)
entry_at-entered_other key (x ∷ xs) e other = grind (arith, bytes_decides e.key x.key, bytes_decides x.key key, entry_at-entered_other key xs e)
