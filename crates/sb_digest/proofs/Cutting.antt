-- What is left of pairs without the last of them is a digest.
use Rattle.std.proofs.Common.{◌≡◌, ℕ, ◌+◌, ◌-◌, ◌<◌, ◌≤◌, Bool, true, ◌&&◌, List, [], ◌∷◌, ◌++◌, length, take, get_or, Option, Some, None, refl, sym, ap, ◌∙◌, subst, arith, length-take}
use Rattle.std.specs.List.{list_all, slice_get}
use Rattle.std.proofs.lemmas.Bool.{and_parts, and_from, le-leb, leb-true}
use Rattle.std.proofs.lemmas.List.{take_all, take_more}
use Rattle.std.proofs.lemmas.Option.{slice_get-get_or}
use Rattle.std.proofs.lemmas.List.Folds.{list_all-append}
use Rattle.sb_types.specs.declared.limits.TheConstants.{PAYLOAD_MOST}
use Rattle.sb_types.specs.Text.{is_name}
use Rattle.sb_types.specs.Limits.{text_lt}
use Rattle.sb_holdings.specs.Plain.{is_from}
use Rattle.sb_digest.specs.Digests.{Pair, digest_of}
use Rattle.sb_digest.specs.Lengths.{digest_length, digest_frame_length}
use Rattle.sb_digest.specs.Limits.{are_pairs_above, is_range, is_bound, is_pair, is_digest}
use Rattle.sb_digest.specs.Builders.{DigestBuilder, IsDigestBuilder, digest_of_first}
use Rattle.sb_digest.proofs.Longest.{nobody, digest_frame_length-front}
use Rattle.sb_types.proofs.Texts.{text_lt-trans, text_le-text_lt}

-- the last is behind each before it
last_behind : (name : List ℕ) (ps : List Pair) (x : Pair) → are_pairs_above name (ps ++ x ∷ []) ≡ true → text_lt name x.owner ≡ true
last_behind name [] x up = (and_parts _ _ up).0
last_behind name (p ∷ ps) x up =
    let parts = and_parts _ _ up in
    text_lt-trans name p.owner x.owner parts.0 (last_behind p.owner ps x parts.1)

pub above-front : (name : List ℕ) (ps rest : List Pair) → are_pairs_above name (ps ++ rest) ≡ true → are_pairs_above name ps ≡ true
above-front name [] rest up = refl
above-front name (p ∷ ps) rest up =
    let parts = and_parts (text_lt name p.owner) _ up in
    and_from _ _ parts.0 (above-front p.owner ps rest parts.1)

covered : (from : Option (List ℕ)) (name : List ℕ) (ps : List Pair) (x : Pair) → list_all (λ (p : Pair). is_from from p.owner) ps ≡ true → are_pairs_above name (ps ++ x ∷ []) ≡ true → list_all (λ (p : Pair). is_from from p.owner && text_lt p.owner x.owner) ps ≡ true
covered from name [] x reached up = refl
covered from name (p ∷ ps) x reached up =
    let parts = and_parts (text_lt name p.owner) _ up in
    let reaches = and_parts (is_from from p.owner) _ reached in
    and_from _ _ (and_from _ _ reaches.0 (last_behind p.owner ps x parts.1)) (covered from p.owner ps x reaches.1 parts.1)

-- the first pair parts the bounds
ranged : (from : Option (List ℕ)) (ps : List Pair) (x : Pair) → 0 < length ps → list_all (λ (p : Pair). is_from from p.owner) ps ≡ true → are_pairs_above [] (ps ++ x ∷ []) ≡ true → is_range from (Some x.owner) ≡ true
ranged None ps x some reached up = refl
ranged (Some from) [] x some reached up = absurd (omega arith)
ranged (Some from) (p ∷ ps) x some reached up =
    text_le-text_lt from p.owner x.owner (and_parts _ _ reached).0 (last_behind p.owner ps x (and_parts (text_lt [] p.owner) _ up).1)

pub cut_is_digest : (want : Bool) (from : Option (List ℕ)) (ps : List Pair) (x : Pair) → 0 < length ps → is_bound from ≡ true → list_all is_pair (ps ++ x ∷ []) ≡ true → list_all (λ (p : Pair). is_from from p.owner) (ps ++ x ∷ []) ≡ true → are_pairs_above [] (ps ++ x ∷ []) ≡ true → digest_length (digest_of want from (Some x.owner) ps) ≤ PAYLOAD_MOST → is_digest (digest_of want from (Some x.owner) ps) ≡ true
cut_is_digest want from ps x some bound pairs reached up short =
    let each = and_parts (list_all is_pair ps) _ (sym (list_all-append is_pair ps (x ∷ [])) ∙ pairs) in
    let reaches = and_parts (list_all (λ (p : Pair). is_from from p.owner) ps) _ (sym (list_all-append (λ (p : Pair). is_from from p.owner) ps (x ∷ [])) ∙ reached) in
    let name : is_name x.owner ≡ true = (and_parts (is_name x.owner) _ (and_parts _ _ (and_parts _ _ (and_parts (is_pair x) true each.1).0).0).0).0 in
    and_from _ _ (and_from _ _ (and_from _ _ bound name) each.0)
    (and_from _ _ (and_from _ _ (and_from _ _ (ranged from ps x some reaches.0 up) (above-front [] ps (x ∷ []) up)) (covered from [] ps x reaches.0 up)) (le-leb _ _ short))

uncut_covered : (from : Option (List ℕ)) (ps : List Pair) → list_all (λ (p : Pair). is_from from p.owner) ps ≡ true → list_all (λ (p : Pair). is_from from p.owner && true) ps ≡ true
uncut_covered from [] reached = refl
uncut_covered from (p ∷ ps) reached =
    let parts = and_parts (is_from from p.owner) _ reached in
    and_from _ _ (and_from _ _ parts.0 refl) (uncut_covered from ps parts.1)

unended : (from : Option (List ℕ)) → is_range from None ≡ true
unended None = refl
unended (Some from) = refl

-- the pairs so far are a digest, where it is within the budget
pub whole_is_digest : (want : Bool) (f : DigestBuilder) → IsDigestBuilder f → digest_frame_length (digest_of want f.from None f.pairs) ≤ f.budget → is_digest (digest_of want f.from None f.pairs) ≡ true
whole_is_digest want f is fits =
    and_from _ _ (and_from _ _ (and_from _ _ is.bound refl) is.pairs)
    (and_from _ _ (and_from _ _ (and_from _ _ (unended f.from) is.ascending) (uncut_covered f.from f.pairs is.reached)) (le-leb _ _ (omega (arith, is.most))))

-- and without the last of them they are
pub front_is_digest : (want : Bool) (f : DigestBuilder) → IsDigestBuilder f → 1 < length f.pairs → is_digest (digest_of_first want f.from f.pairs (length f.pairs - 1)) ≡ true
front_is_digest want f is some =
    let count = length f.pairs - 1 in
    let last = get_or f.pairs count nobody in
    let inside : count < length f.pairs = omega arith in
    let all : take (count + 1) f.pairs ≡ f.pairs = take_all (count + 1) f.pairs (omega arith) in
    let parted : f.pairs ≡ take count f.pairs ++ last ∷ [] = sym all ∙ take_more f.pairs count nobody inside in
    let end : slice_get f.pairs count ≡ Some last = slice_get-get_or f.pairs count nobody inside in
    let shorter = digest_frame_length-front want f.from f.pairs count inside in
    let room = leb-true _ _ is.room in
    let short : digest_length (digest_of_first want f.from f.pairs count) ≤ PAYLOAD_MOST = omega (arith, ap (λ ps. digest_frame_length (digest_of want f.from None ps)) all, is.most) in
    rw end (cut_is_digest want f.from (take count f.pairs) last (omega (arith, length-take count f.pairs)) is.bound (subst (λ ps. list_all is_pair ps ≡ true) parted is.pairs) (subst (λ ps. list_all (λ (p : Pair). is_from f.from p.owner) ps ≡ true) parted is.reached) (subst (λ ps. are_pairs_above [] ps ≡ true) parted is.ascending) (rw end at short))
