-- Pairs whose owners ascend.
use Rattle.std.proofs.Common.{◌≡◌, ℕ, true, List, [], ◌∷◌, Ordering, Less, nat_cmp}
use Rattle.std.specs.List.{AllByRecursion}
use Rattle.std.specs.List.Sorted.{IsStrictlySortedBy}
use Rattle.std.specs.Cmp.{IsTotalOrder}
use Rattle.std.specs.Cmp.Lexicographic.{slice_cmp}
use Rattle.std.specs.Ordering.{on}
use Rattle.std.proofs.lemmas.Bool.{and_parts}
use Rattle.std.proofs.lemmas.Cmp.{nat_list_cmp_total, on_total}
use Rattle.sb_types.specs.Limits.{text_lt}
use Rattle.sb_digest.specs.Digests.{Pair}
use Rattle.sb_digest.specs.Limits.{are_pairs_above}
use Rattle.sb_types.proofs.Texts.{Less-from_text_lt, text_lt-trans}

abbrev pub by_owner : Pair → Pair → Ordering
by_owner = on (λ (p : Pair). p.owner) (slice_cmp nat_cmp)

pub by_owner_total : IsTotalOrder by_owner
by_owner_total = on_total (λ (p : Pair). p.owner) nat_list_cmp_total

all_behind : (name last : List ℕ) (ps : List Pair) → text_lt name last ≡ true → are_pairs_above last ps ≡ true → AllByRecursion (λ (p : Pair). slice_cmp nat_cmp name p.owner ≡ Less) ps
all_behind name last [] before up = tt
all_behind name last (p ∷ ps) before up =
    let parts = and_parts _ _ up in
    let less = text_lt-trans name last p.owner before parts.0 in
    (Less-from_text_lt name p.owner less, all_behind name p.owner ps less parts.1)

-- each pair above a name is behind it
pub behind : (name : List ℕ) (ps : List Pair) → are_pairs_above name ps ≡ true → AllByRecursion (λ (p : Pair). slice_cmp nat_cmp name p.owner ≡ Less) ps
behind name [] up = tt
behind name (p ∷ ps) up =
    let parts = and_parts _ _ up in
    (Less-from_text_lt name p.owner parts.0, all_behind name p.owner ps parts.0 parts.1)

pub rises_from_above : (last : List ℕ) (ps : List Pair) → are_pairs_above last ps ≡ true → IsStrictlySortedBy by_owner ps
unfolding IsStrictlySortedBy
rises_from_above last [] up = tt
rises_from_above last (p ∷ ps) up =
    let parts = and_parts (text_lt last p.owner) (are_pairs_above p.owner ps) up in
    (behind p.owner ps parts.1, rises_from_above p.owner ps parts.1)
