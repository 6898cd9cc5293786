-- That the entries by key are the entries, sorted by key.
use Rattle.std.proofs.Common.{◌≡◌, ℕ, ◌+◌, ◌<◌, true, false, List, [], ◌∷◌, length, get_or, zero, suc, arith}
use Rattle.std.proofs.lemmas.Bool.{cond_both}
use Rattle.std.proofs.lemmas.List.Sorted.{IsPermutation-refl, IsPermutation-cons, IsPermutation-middle, IsPermutation-trans}
use Rattle.std.specs.Cmp.Lexicographic.{slice_cmp}
use Rattle.std.specs.Ordering.{nat_cmp}
use Rattle.std.specs.List.Sorted.{IsPermutation, IsSortedByKey}
use Rattle.sb_types.specs.Limits.{text_lt}
use Rattle.sb_types.specs.Records.{Entry}
use Rattle.sb_table.specs.Order.{put_by_key, by_key}
use Rattle.sb_types.proofs.Texts.{text_lt-back}

IsPermutation-put_by_key : (e : Entry) (zs : List Entry) → IsPermutation (e ∷ zs) (put_by_key e zs)
IsPermutation-put_by_key e [] = IsPermutation-refl (e ∷ [])
IsPermutation-put_by_key e (z ∷ zs) =
    cond_both (text_lt z.key e.key) (z ∷ put_by_key e zs) (e ∷ z ∷ zs) (λ es. IsPermutation (e ∷ z ∷ zs) es)
    (λ _. IsPermutation-trans (e ∷ z ∷ zs) (z ∷ e ∷ zs) (z ∷ put_by_key e zs) (IsPermutation-middle (e ∷ []) z zs)
    (IsPermutation-cons z (e ∷ zs) (put_by_key e zs) (IsPermutation-put_by_key e zs)))
    (λ _. IsPermutation-refl (e ∷ z ∷ zs))

pub IsPermutation-by_key : (es : List Entry) → IsPermutation es (by_key es)
IsPermutation-by_key [] = IsPermutation-refl []
IsPermutation-by_key (e ∷ es) =
    IsPermutation-trans (e ∷ es) (e ∷ by_key es) (put_by_key e (by_key es)) (IsPermutation-cons e es (by_key es) (IsPermutation-by_key es)) (IsPermutation-put_by_key e (by_key es))

-- the first of the list has no lesser key than x
abbrev FollowsOn : Entry → List Entry → Type 0
FollowsOn x [] = Unit {0}
FollowsOn x (y ∷ ys) = text_lt y.key x.key ≡ false

abbrev IsInOrder : List Entry → Type 0
IsInOrder [] = Unit {0}
IsInOrder (x ∷ xs) = FollowsOn x xs × IsInOrder xs

FollowsOn-put_by_key : (x e : Entry) (zs : List Entry) → text_lt x.key e.key ≡ true → FollowsOn x zs → FollowsOn x (put_by_key e zs)
FollowsOn-put_by_key x e [] lt follows = text_lt-back x.key e.key lt
FollowsOn-put_by_key x e (z ∷ zs) lt follows = cond_both (text_lt z.key e.key) (z ∷ put_by_key e zs) (e ∷ z ∷ zs) (FollowsOn x) (λ _. follows) (λ _. text_lt-back x.key e.key lt)

IsInOrder-put_by_key : (e : Entry) (zs : List Entry) → IsInOrder zs → IsInOrder (put_by_key e zs)
IsInOrder-put_by_key e [] ordered = (tt, tt)
IsInOrder-put_by_key e (z ∷ zs) ordered =
    cond_both (text_lt z.key e.key) (z ∷ put_by_key e zs) (e ∷ z ∷ zs) IsInOrder
    (λ lt. (FollowsOn-put_by_key z e zs lt ordered.0, IsInOrder-put_by_key e zs ordered.1)) (λ ge. (ge, ordered))

IsInOrder-by_key : (es : List Entry) → IsInOrder (by_key es)
IsInOrder-by_key [] = tt
IsInOrder-by_key (e ∷ es) = IsInOrder-put_by_key e (by_key es) (IsInOrder-by_key es)

next_follows : (es : List Entry) → IsInOrder es → (k : ℕ) (d : Entry) → k + 1 < length es → text_lt (get_or es (k + 1) d).key (get_or es k d).key ≡ false
next_follows [] ordered k d lt = absurd (omega arith)
next_follows (x ∷ []) ordered k d lt = absurd (omega arith)
next_follows (x ∷ y ∷ ys) ordered zero d lt = ordered.0
next_follows (x ∷ y ∷ ys) ordered (suc k) d lt =
    let at : suc k + 1 ≡ suc (k + 1) = omega arith in
    rw at (next_follows (y ∷ ys) ordered.1 k d (omega arith))

pub IsSortedByKey-by_key : (es : List Entry) → IsSortedByKey (λ e. e.key) (slice_cmp nat_cmp) (by_key es)
IsSortedByKey-by_key es k d low lt = next_follows (by_key es) (IsInOrder-by_key es) k d lt
