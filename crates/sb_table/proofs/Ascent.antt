-- What ascending versions say of places, filters and a push.
use Rattle.std.proofs.Common.{◌≡◌, ℕ, ◌+◌, ◌-◌, ◌<◌, ◌≤◌, Bool, true, false, List, [], ◌∷◌, ◌++◌, length, get_or, drop, filter, leb, refl, zero, suc, arith}
use Rattle.std.proofs.lemmas.Bool.Decides.{nat_tests}
use Rattle.std.specs.List.{AllWithin}
use Rattle.std.specs.List.Sorted.{IsNonDecreasingBy}
use Rattle.sb_types.specs.Records.{Entry}
use Rattle.sb_types.specs.Runs.{newer_entries, are_ascending, last_version}

pub are_ascending-filter : (p : Entry → Bool) (low last : ℕ) (es : List Entry) → low ≤ last → are_ascending last es ≡ true → are_ascending low (filter p es) ≡ true
are_ascending-filter p low last [] le up = refl
are_ascending-filter p low last (x ∷ xs) le up = grind (arith, nat_tests, are_ascending-filter p x.version x.version xs, are_ascending-filter p low x.version xs)

pub last_version-filter : (p : Entry → Bool) (low last : ℕ) (es : List Entry) → low ≤ last → are_ascending last es ≡ true → last_version low (filter p es) ≤ last_version last es
last_version-filter p low last [] le up = le
last_version-filter p low last (x ∷ xs) le up = grind (arith, nat_tests, last_version-filter p x.version x.version xs, last_version-filter p low x.version xs)

pub are_ascending-push : (last : ℕ) (es : List Entry) (e : Entry) → are_ascending last es ≡ true → last_version last es < e.version → are_ascending last (es ++ e ∷ []) ≡ true
are_ascending-push last [] e up lt = grind (arith, nat_tests)
are_ascending-push last (x ∷ xs) e up lt = grind (arith, nat_tests, are_ascending-push x.version xs e)

pub last_version-push : (before : ℕ) (es : List Entry) (e : Entry) → last_version before (es ++ e ∷ []) ≡ e.version
last_version-push before [] e = refl
last_version-push before (x ∷ xs) e = last_version-push x.version xs e

above_last : (last : ℕ) (es : List Entry) → are_ascending last es ≡ true → (j : ℕ) (d : Entry) → j < length es → last < (get_or es j d).version
above_last last [] up j d lt = absurd (omega arith)
above_last last (x ∷ xs) up zero d lt = grind (arith, nat_tests)
above_last last (x ∷ xs) up (suc j) d lt = grind (arith, nat_tests, above_last x.version xs)

pub versions_rise : (last : ℕ) (es : List Entry) → are_ascending last es ≡ true → IsNonDecreasingBy (λ e. e.version) es
versions_rise last [] up i j d le lt = absurd (omega arith)
versions_rise last (x ∷ xs) up zero zero d le lt = omega arith
versions_rise last (x ∷ xs) up zero (suc j) d le lt = grind (arith, nat_tests, above_last x.version xs)
versions_rise last (x ∷ xs) up (suc i) zero d le lt = absurd (omega arith)
versions_rise last (x ∷ xs) up (suc i) (suc j) d le lt = grind (arith, nat_tests, versions_rise x.version xs)

room_behind : (last : ℕ) (es : List Entry) → are_ascending last es ≡ true → last + length es ≤ last_version last es
room_behind last [] up = omega arith
room_behind last (x ∷ xs) up = grind (arith, nat_tests, room_behind x.version xs)

-- after an entry there are at most as many entries as versions from its own to the last
behind : (last : ℕ) (es : List Entry) → are_ascending last es ≡ true → (j : ℕ) (d : Entry) → j < length es → (get_or es j d).version + length es ≤ last_version last es + suc j
behind last [] up j d lt = absurd (omega arith)
behind last (x ∷ xs) up zero d lt = grind (arith, nat_tests, room_behind x.version xs)
behind last (x ∷ xs) up (suc j) d lt = grind (arith, nat_tests, behind x.version xs)

pub upto_least : (v i : ℕ) (es : List Entry) → are_ascending 0 es ≡ true → i ≤ length es - (last_version 0 es - v) → AllWithin (λ e. leb e.version v ≡ true) es 0 i
upto_least v i es up room k d le lt =
    let l = behind 0 es up k d (omega (arith, room)) in
    grind (arith, nat_tests)

pub from_above : (v i : ℕ) (es : List Entry) → are_ascending 0 es ≡ true → ((d : Entry) → i < length es → v < (get_or es i d).version) → AllWithin (λ e. leb e.version v ≡ false) es i (length es)
from_above v i es up first k d le lt =
    let l = first d (omega arith) in
    let r = versions_rise 0 es up i k d le lt in
    grind (arith, nat_tests)

pub same_entry : (es : List Entry) (i : ℕ) (d e : Entry) → i < length es → get_or es i d ≡ get_or es i e
same_entry [] i d e lt = absurd (omega (arith, lt))
same_entry (x ∷ xs) zero d e lt = refl
same_entry (x ∷ xs) (suc i) d e lt = same_entry xs i d e (omega (arith, lt))

-- where a place parts the versions up to v from those above it
pub drop_at_place : (v i : ℕ) (es : List Entry) → AllWithin (λ e. leb e.version v ≡ true) es 0 i → AllWithin (λ e. leb e.version v ≡ false) es i (length es) → drop i es ≡ newer_entries v es
drop_at_place v zero [] upto behind = refl
drop_at_place v (suc i) [] upto behind = refl
drop_at_place v zero (x ∷ xs) upto behind =
    let rest = drop_at_place v zero xs (λ k d le lt. absurd (omega arith)) (λ k d le lt. behind (suc k) d (omega arith) (omega arith)) in
    let here = behind 0 x (omega arith) (omega arith) in
    grind (arith, nat_tests)
drop_at_place v (suc i) (x ∷ xs) upto behind =
    let rest = drop_at_place v i xs (λ k d le lt. upto (suc k) d (omega arith) (omega arith)) (λ k d le lt. behind (suc k) d (omega arith) (omega arith)) in
    let here = upto 0 x (omega arith) (omega arith) in
    grind (arith, nat_tests)
