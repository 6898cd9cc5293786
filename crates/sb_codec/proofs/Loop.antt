-- Reading a counted list one by one, as a loop does.
use Rattle.std.proofs.Common.{◌≡◌, ℕ, suc, ◌-◌, ◌+◌, ◌≤◌, ◌<◌, List, [], ◌∷◌, ◌++◌, Option, Some, None, refl, sym, ap, ◌∙◌, append_assoc, arith}
use Rattle.std.specs.Option.{option_and_then}
use Rattle.std.proofs.lemmas.List.{append-nil}
use Rattle.sb_codec.specs.declared.refusal.Refusal.{Refusal}
use Rattle.sb_codec.specs.declared.refusal.Refusal.TheVariants.{Memory, Malformed}
use Rattle.sb_codec.specs.Fields.{Field, times_field}
use Rattle.sb_codec.specs.Refusal.{Fails}

-- what was read before, and what is still read
abbrev pub with_front : {A : Type 0} → List A → Option (List A × List ℕ) → Option (List A × List ℕ)
with_front front read = option_and_then (λ xs. Some (front ++ xs.0, xs.1)) read

regroup : {A : Type 0} (front : List A) (x : A) (read : Option (List A × List ℕ)) → with_front front (option_and_then (λ xs. Some (x ∷ xs.0, xs.1)) read) ≡ with_front (front ++ x ∷ []) read
regroup front x None = refl
regroup {A} front x (Some xs) = ap (λ (all : List A). Some (all, xs.1)) (sym (append_assoc front (x ∷ []) xs.0))

no_front : {A : Type 0} (read : Option (List A × List ℕ)) → with_front [] read ≡ read
no_front None = refl
no_front (Some xs) = refl

pub starts : {A : Type 0} (field : Field A) (count : ℕ) (bytes : List ℕ) → with_front [] (times_field field (count - 0) bytes) ≡ times_field field count bytes
starts field count bytes =
    let k : count - 0 ≡ count = omega arith in
    no_front (times_field field (count - 0) bytes) ∙ ap (λ (n : ℕ). times_field field n bytes) k

pub goes_on : {A : Type 0} (field : Field A) (front : List A) (count i : ℕ) (bytes after : List ℕ) (x : A) (total : Option (List A × List ℕ)) → i < count → field bytes ≡ Some (x, after)
    → with_front front (times_field field (count - i) bytes) ≡ total → with_front (front ++ x ∷ []) (times_field field (count - (i + 1)) after) ≡ total
unfolding times_field
goes_on field front count i bytes after x total lt h so_far =
    let k : count - i ≡ suc (count - (i + 1)) = omega arith in
    let one : with_front front (times_field field (count - i) bytes) ≡ with_front (front ++ x ∷ []) (times_field field (count - (i + 1)) after) = rw (k, h) (regroup front x (times_field field (count - (i + 1)) after)) in
    sym one ∙ so_far

pub ends : {A : Type 0} (field : Field A) (refusal : Refusal) (front : List A) (count i : ℕ) (bytes : List ℕ) (total : Option (List A × List ℕ)) → i < count → Fails refusal (field bytes)
    → with_front front (times_field field (count - i) bytes) ≡ total → Fails refusal total
unfolding times_field
ends field Memory front count i bytes total lt h so_far = tt
ends field Malformed front count i bytes total lt h so_far =
    let k : count - i ≡ suc (count - (i + 1)) = omega arith in
    let one : with_front front (times_field field (count - i) bytes) ≡ None = rw (k, h) refl in
    sym so_far ∙ one

pub is_done : {A : Type 0} (field : Field A) (front : List A) (count i : ℕ) (bytes : List ℕ) (total : Option (List A × List ℕ)) → count ≤ i → with_front front (times_field field (count - i) bytes) ≡ total → total ≡ Some (front, bytes)
unfolding times_field
is_done {A} field front count i bytes total le so_far =
    let k : count - i ≡ 0 = omega arith in
    let one : with_front front (times_field field (count - i) bytes) ≡ Some (front, bytes) = rw k (ap (λ (all : List A). Some (all, bytes)) (append-nil front)) in
    sym so_far ∙ one
