-- What is taken out of a table's entries.
use Rattle.std.proofs.Common.{◌≡◌, ℕ, ◌<◌, ◌≤◌, Bool, true, false, not, List, [], ◌∷◌, find, length, nat_eq, nat_lt, nat_le, inl, inr, ⊎_elim, Some, None, refl, sym, ap, ◌∙◌, arith}
use Rattle.std.proofs.lemmas.Bool.{and_parts, cases_Bool, not-true}
use Rattle.std.proofs.lemmas.Bool.Decides.{nat_tests}
use Rattle.std.proofs.lemmas.Cmp.{nat_list_eq_equiv}
use Rattle.std.specs.Option.{option_map}
use Rattle.sb_types.specs.declared.entry.Slot.{Slot}
use Rattle.std.specs.Cmp.Lexicographic.{pointwise, bytes_decides}
use Rattle.sb_types.specs.Records.{Entry}
use Rattle.sb_types.specs.Runs.{Stands, entries_up_to, are_ascending, are_distinct, entry_at, has_key, live_entries}
use Rattle.sb_types.proofs.Standing.{not_there}
use Rattle.sb_table.specs.Plain.{version_and_slot}
use Rattle.sb_table.specs.Floors.{is_dead, entries_without_key}
use Rattle.sb_table.proofs.Order.{behind}

pub found-stands : (p : Entry → Bool) (es : List Entry) (e : Entry) → find p es ≡ Some e → Stands es e
found-stands p [] e found = absurd (cc)
found-stands p (x ∷ xs) e found = grind (arith, found-stands p xs e)

pub found-passes : (p : Entry → Bool) (es : List Entry) (e : Entry) → find p es ≡ Some e → p e ≡ true
found-passes p [] e found = absurd (cc)
found-passes p (x ∷ xs) e found = grind (arith, found-passes p xs e)

pub none-fails : (p : Entry → Bool) (es : List Entry) (e : Entry) → find p es ≡ None → Stands es e → p e ≡ false
none-fails p [] e none stands = absurd stands
none-fails p (x ∷ xs) e none (inl same) = grind arith
none-fails p (x ∷ xs) e none (inr later) = grind (arith, none-fails p xs e)

-- what comes before the first that passes does not pass
pub before-found : (p : Entry → Bool) (low : ℕ) (es : List Entry) (f e : Entry) → are_ascending low es ≡ true → find p es ≡ Some f → Stands es e → e.version < f.version → p e ≡ false
before-found p low [] f e up found stands lt = absurd stands
before-found p low (x ∷ xs) f e up found (inl same) lt = grind arith
before-found p low (x ∷ xs) f e up found (inr later) lt =
    let rises = (and_parts (nat_lt low x.version) (are_ascending x.version xs) up).1 in
    grind (arith, behind x.version xs e rises later, before-found p x.version xs f e)

pub outside-none : (key : List ℕ) (es : List Entry) → has_key key es ≡ false → entries_without_key key es ≡ es
outside-none key [] none = refl
outside-none key (x ∷ xs) none = grind (arith, outside-none key xs)

has_key-outside : (key : List ℕ) (es : List Entry) → has_key key (entries_without_key key es) ≡ false
has_key-outside key [] = refl
has_key-outside key (x ∷ xs) = grind (arith, has_key-outside key xs)

length-outside_le : (key : List ℕ) (es : List Entry) → length (entries_without_key key es) ≤ length es
length-outside_le key [] = omega arith
length-outside_le key (x ∷ xs) = grind (arith, length-outside_le key xs)

pub length-outside : (key : List ℕ) (es : List Entry) → has_key key es ≡ true → length (entries_without_key key es) < length es
length-outside key [] some = absurd (cc)
length-outside key (x ∷ xs) some = grind (arith, length-outside_le key xs, length-outside key xs)

-- a marker that is dead may go
pub live-outside : (floor : ℕ) (es : List Entry) (e : Entry) → are_distinct es ≡ true → Stands es e → is_dead floor e ≡ true → live_entries floor (entries_without_key e.key es) ≡ live_entries floor es
live-outside floor [] e apart stands dead = absurd stands
live-outside floor (x ∷ xs) e apart (inl same) dead =
    let none = not-true (has_key x.key xs) (and_parts (not (has_key x.key xs)) (are_distinct xs) apart).0 in
    grind (arith, nat_list_eq_equiv.refl e.key, outside-none e.key xs)
live-outside floor (x ∷ xs) e apart (inr later) dead =
    let parts = and_parts (not (has_key x.key xs)) (are_distinct xs) apart in
    let rest = live-outside floor xs e parts.1 later dead in
    let other : pointwise nat_eq x.key e.key ≡ false = ⊎_elim (λ h. absurd (not_there x.key xs e parts.0 later (sym ((bytes_decides x.key e.key).0 h)))) (λ h. h) (cases_Bool (pointwise nat_eq x.key e.key)) in
    grind arith

-- ---- whether a key has an entry up to a version

lacks_up_to : (key : List ℕ) (v : ℕ) (es : List Entry) → has_key key es ≡ false → has_key key (entries_up_to v es) ≡ false
lacks_up_to key v [] none = refl
lacks_up_to key v (x ∷ xs) none = grind (arith, lacks_up_to key v xs)

some_here : (key : List ℕ) (v n : ℕ) (slot : Slot) (x : Entry) (xs : List Entry) → pointwise nat_eq x.key key ≡ true → has_key x.key xs ≡ false
    → Some (n, slot) ≡ option_map version_and_slot (entry_at key (x ∷ xs)) → nat_le n v ≡ has_key key (entries_up_to v (x ∷ xs))
some_here key v n slot x xs here alone is =
    let none : has_key key xs ≡ false = ap (λ (k : List ℕ). has_key k xs) (sym ((bytes_decides x.key key).0 here)) ∙ alone in
    let rest = lacks_up_to key v xs none in
    let same : x.version ≡ n = grind arith in
    grind (arith, nat_tests)

some_other : (key : List ℕ) (v n : ℕ) (slot : Slot) (x : Entry) (xs : List Entry) → pointwise nat_eq x.key key ≡ false
    → Some (n, slot) ≡ option_map version_and_slot (entry_at key (x ∷ xs)) → (Some (n, slot) ≡ option_map version_and_slot (entry_at key xs) → nat_le n v ≡ has_key key (entries_up_to v xs))
    → nat_le n v ≡ has_key key (entries_up_to v (x ∷ xs))
some_other key v n slot x xs other is later =
    let behind : Some (n, slot) ≡ option_map version_and_slot (entry_at key xs) = grind arith in
    let rest = later behind in
    grind arith

pub some_up_to : (key : List ℕ) (v n : ℕ) (slot : Slot) (es : List Entry) → are_distinct es ≡ true → Some (n, slot) ≡ option_map version_and_slot (entry_at key es) → nat_le n v ≡ has_key key (entries_up_to v es)
some_up_to key v n slot [] apart is = absurd (cc)
some_up_to key v n slot (x ∷ xs) apart is =
    let parts = and_parts (not (has_key x.key xs)) (are_distinct xs) apart in
    ⊎_elim
    (λ here. some_here key v n slot x xs here (not-true (has_key x.key xs) parts.0) is)
    (λ other. some_other key v n slot x xs other is (λ later. some_up_to key v n slot xs parts.1 later))
    (cases_Bool (pointwise nat_eq x.key key))

pub none_up_to : (key : List ℕ) (v : ℕ) (es : List Entry) → None ≡ option_map version_and_slot (entry_at key es) → false ≡ has_key key (entries_up_to v es)
none_up_to key v [] is = refl
none_up_to key v (x ∷ xs) is = grind (arith, none_up_to key v xs)
