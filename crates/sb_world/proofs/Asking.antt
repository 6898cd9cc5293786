-- The digest that an offer is made for is within its limits.
use Rattle.std.proofs.Common.{◌≡◌, ℕ, ◌*◌, ◌≤◌, Bool, true, false, List, [], ◌∷◌, map, length, None, Result, Ok, Err, cond, refl, sym, ap, subst, ◌∙◌, arith, nat_cmp, Less, is_lt}
use Rattle.std.specs.Prelude.{filter, sum_by}
use Rattle.std.specs.List.{list_all, AllByRecursion}
use Rattle.std.specs.List.Sorted.{IsStrictlySortedBy}
use Rattle.std.specs.Cmp.Lexicographic.{slice_cmp}
use Rattle.std.specs.FinMap.{entries, len-entries}
use Rattle.std.specs.Map.{keys_of}
use Rattle.std.proofs.lemmas.Bool.{and_parts, and_from, le-leb, true≢false}
use Rattle.std.proofs.lemmas.List.{length-map}
use Rattle.std.proofs.lemmas.List.Sums.{sum_by-cons}
use Rattle.std.proofs.lemmas.Map.Keys.{sorted_head, sorted_tail}
use Rattle.sb_types.specs.declared.limits.TheConstants.{NAME_MOST, PAYLOAD_MOST, OWNERS_MOST}
use Rattle.sb_types.specs.Records.{Table, Holder}
use Rattle.sb_types.specs.Text.{is_name, is_name_byte}
use Rattle.sb_holdings.specs.Held.{Held}
use Rattle.sb_holdings.specs.Plain.{IsHoldings, is_from, tables_from}
use Rattle.sb_digest.specs.Digests.{Pair, Digest, digest_of, covers}
use Rattle.sb_digest.specs.Lengths.{pair_length, digest_length}
use Rattle.sb_digest.specs.Limits.{are_pairs_above, are_digest_parts}
use Rattle.sb_codec.proofs.Parts.{between_parts}
use Rattle.sb_types.specs.declared.fault.Fault.{Fault}
use Rattle.sb_world.specs.Turns.{numbered_pair, offer_digest}

abbrev owner_of : Pair → List ℕ
owner_of pair = pair.owner

abbrev is_named : Pair → Bool
is_named pair = is_name pair.owner

-- each name is behind the empty text
names_behind : (ps : List Pair) → list_all is_named ps ≡ true → AllByRecursion (λ other. slice_cmp nat_cmp [] other ≡ Less) (map owner_of ps)
names_behind [] named = tt
names_behind (p ∷ ps) named = let parts = and_parts (is_named p) (list_all is_named ps) named in (behind p.owner parts.0, names_behind ps parts.1)
  where
    behind : (name : List ℕ) → is_name name ≡ true → slice_cmp nat_cmp [] name ≡ Less
    behind [] is = absurd (true≢false (sym is))
    behind (b ∷ bs) is = refl

pairs_above : (last : List ℕ) (ps : List Pair) → AllByRecursion (λ other. slice_cmp nat_cmp last other ≡ Less) (map owner_of ps) → IsStrictlySortedBy (slice_cmp nat_cmp) (map owner_of ps) → are_pairs_above last ps ≡ true
pairs_above last [] behind rises = refl
pairs_above last (p ∷ ps) behind rises =
    and_from _ _ (ap is_lt behind.0) (pairs_above p.owner ps (sorted_head (slice_cmp nat_cmp) p.owner (map owner_of ps) rises) (sorted_tail (slice_cmp nat_cmp) p.owner (map owner_of ps) rises))

all_covered : (d : Digest) (ps : List Pair) → ((name : List ℕ) → covers d name ≡ true) → list_all (λ (pair : Pair). covers d pair.owner) ps ≡ true
all_covered d [] each = refl
all_covered d (p ∷ ps) each = and_from _ _ (each p.owner) (all_covered d ps each)

short_pairs : (ps : List Pair) → list_all is_named ps ≡ true → sum_by pair_length ps ≤ 57 * length ps
short_pairs [] named = omega arith
short_pairs (p ∷ ps) named =
    let parts = and_parts (is_named p) (list_all is_named ps) named in
    let name = between_parts 1 NAME_MOST (length p.owner) (and_parts _ (list_all is_name_byte p.owner) parts.0).0 in
    rw sum_by-cons (let most = name.1 in omega (arith, short_pairs ps parts.1, most))

-- of as many owners as may be held
digest_fits : (ps : List Pair) → IsStrictlySortedBy (slice_cmp nat_cmp) (map owner_of ps) → list_all is_named ps ≡ true → length ps ≤ OWNERS_MOST → are_digest_parts (digest_of false None None ps) ≡ true
digest_fits ps rises named few =
    let d = digest_of false None None ps in
    let short : digest_length d ≤ PAYLOAD_MOST = omega (arith, short_pairs ps named, few) in
    and_from _ _ (and_from _ _ (pairs_above [] ps (names_behind ps named) rises) (all_covered d ps (λ name. refl))) (le-leb _ _ short)

owners_asked : (owner : List ℕ) (after : ℕ) (ts : List (List ℕ × Table)) → map owner_of (map (numbered_pair owner after) ts) ≡ keys_of ts
owners_asked owner after [] = refl
owners_asked owner after (t ∷ ts) = ap (λ names. t.0 ∷ names) (owners_asked owner after ts)

all_from : (es : List (List ℕ × Holder)) → filter (λ e. is_from None e.0) es ≡ es
all_from [] = refl
all_from (e ∷ es) = ap (λ xs. e ∷ xs) (all_from es)

few_asked : (held : Held) (owner : List ℕ) (after : ℕ) → IsHoldings held → length (offer_digest held owner after).pairs ≤ OWNERS_MOST
few_asked held owner after is =
    let limit = is.limit in
    let same : length (offer_digest held owner after).pairs ≡ length (entries held.owners) =
    length-map (tables_from None held) (numbered_pair owner after) ∙ length-map (filter (λ e. is_from None e.0) (entries held.owners)) (λ e. (e.0, e.1.shown)) ∙ ap length (all_from (entries held.owners)) in
    omega (arith, limit, same, len-entries held.owners)

pub asked_fits : (held : Held) (owner : List ℕ) (after : ℕ) → IsHoldings held → IsStrictlySortedBy (slice_cmp nat_cmp) (keys_of (tables_from None held)) → list_all is_named (offer_digest held owner after).pairs ≡ true → are_digest_parts (offer_digest held owner after) ≡ true
asked_fits held owner after is rises named =
    digest_fits (offer_digest held owner after).pairs (subst (IsStrictlySortedBy (slice_cmp nat_cmp)) (sym (owners_asked owner after (tables_from None held))) rises) named (few_asked held owner after is)

-- a digest of these pairs is made, for it is within its limits
pub asked_made : (ps : List Pair) (d : Digest) (result : Result Digest Fault) (other : Fault) → result ≡ cond (are_digest_parts (digest_of false None None ps)) (Ok (digest_of false None None ps)) (Err other) →
    digest_of false None None ps ≡ d → are_digest_parts d ≡ true → result ≡ Ok d
asked_made ps d result other made same fits =
    made ∙ ap (λ (x : Digest). cond (are_digest_parts x) (Ok x) (Err other)) same ∙ ap (λ b. cond b (Ok d) (Err other)) fits
