-- Which front of a list of pairs is the longest within a budget.
use Rattle.std.proofs.Common.{◌≡◌, ℕ, ◌+◌, ◌-◌, ◌*◌, ◌^◌, ◌<◌, ◌≤◌, Bool, true, leb, List, [], ◌∷◌, ◌++◌, length, take, Option, Some, None, refl, sym, ap, ◌∙◌, subst, arith, inl, inr, length-append, append_assoc}
use Rattle.std.specs.List.{sum_by, slice_get, list_all}
use Rattle.std.proofs.lemmas.Bool.{cases_lt, and_parts, leb-true}
use Rattle.std.proofs.lemmas.List.{take_all, take-take, take_at, take-append-le, get_or_append_left}
use Rattle.std.proofs.lemmas.List.Sums.{sum_by-cons, sum_by_more, sum_by-take-le}
use Rattle.std.proofs.lemmas.Option.{slice_get-get_or, slice_get_past}
use Rattle.sb_types.specs.declared.limits.TheConstants.{NAME_MOST, PAYLOAD_MOST}
use Rattle.sb_types.specs.declared.format.TheConstants.{BYTE_LENGTH, HEADER_LENGTH, NAME_LENGTH_MOST, NUMBER_LENGTH}
use Rattle.sb_types.specs.Text.{is_name, is_name_byte}
use Rattle.sb_digest.specs.declared.digest.TheConstants.{HEAD_LENGTH_MOST}
use Rattle.sb_digest.specs.Digests.{Pair, Digest, digest_of}
use Rattle.sb_digest.specs.Lengths.{bound_length, pair_length, digest_length, digest_frame_length}
use Rattle.sb_digest.specs.Limits.{is_bound, is_pair, are_digest_parts, is_digest}
use Rattle.sb_digest.specs.Builders.{digest_of_first, IsLongestFront, cut_saves}

abbrev pub nobody : Pair
nobody = record { owner = []; held = 0; floor = 0; progress = 0 }

module _ (want : Bool) (from : Option (List ℕ)) where
  abbrev pub whole : List Pair → Digest
  whole ps = digest_of want from None ps

  pub digest_of_first-all : (ps : List Pair) → digest_of_first want from ps (length ps) ≡ whole ps
  digest_of_first-all ps = rw (slice_get_past ps (length ps) (omega arith), take_all (length ps) ps (omega arith))

  pub digest_frame_length-front : (ps : List Pair) (count : ℕ) → count < length ps → digest_frame_length (digest_of_first want from ps count) + cut_saves ≡ digest_frame_length (whole (take (count + 1) ps))
  digest_frame_length-front ps count l = rw (slice_get-get_or ps count nobody l) (omega (arith, sum_by_more pair_length ps count nobody l))

  pub digest_length-front : (ps : List Pair) → 0 < length ps → digest_length (digest_of_first want from ps (length ps - 1)) + cut_saves ≡ digest_length (whole ps)
  digest_length-front ps some =
      let all : take (length ps - 1 + 1) ps ≡ ps = take_all (length ps - 1 + 1) ps (omega arith) in
      omega (arith, digest_frame_length-front ps (length ps - 1) (omega arith), ap (λ xs. digest_frame_length (whole xs)) all)

  frames_rise : (ps : List Pair) (fewer more : ℕ) → fewer ≤ more → digest_frame_length (whole (take fewer ps)) ≤ digest_frame_length (whole (take more ps))
  frames_rise ps fewer more le =
      let total : sum_by pair_length (take fewer ps) ≤ sum_by pair_length (take more ps) = subst (λ xs. sum_by pair_length xs ≤ sum_by pair_length (take more ps)) (take-take fewer more ps le) (sum_by-take-le pair_length (take more ps) fewer) in
      omega arith

  frames_all : (ps : List Pair) (count : ℕ) → digest_frame_length (whole (take count ps)) ≤ digest_frame_length (whole ps)
  frames_all ps count = omega (arith, sum_by-take-le pair_length ps count)

  module _ (budget : ℕ) where
    pub longest-all : (ps : List Pair) → digest_frame_length (whole ps) ≤ budget → IsLongestFront budget want from ps (whole ps)
    longest-all ps fits = record { count = length ps; most = omega arith; front = sym (digest_of_first-all ps); fits = fits; longest = λ more above most. absurd (omega arith) }

    -- all but the last, where all are too many
    pub longest-but_last : (ps : List Pair) (count : ℕ) → count + 1 ≡ length ps → digest_frame_length (whole ps) ≤ budget + cut_saves → budget < digest_frame_length (whole ps) → IsLongestFront budget want from ps (digest_of_first want from ps count)
    longest-but_last ps count last room over = record {
      count = count;
      most = omega arith;
      front = refl;
      fits = let cut = digest_frame_length-front ps count (omega arith) in let all = frames_all ps (count + 1) in omega arith;
      longest = λ more above most.
          let end : length ps ≡ more = omega arith in
          let family : ℕ → Type 0 = λ n. budget < digest_frame_length (digest_of_first want from ps n) in
          subst family end (subst (λ (d : Digest). budget < digest_frame_length d) (sym (digest_of_first-all ps)) over);
    }

    -- all but the last of the first pairs, where one more is too many
    pub longest-before : (ps : List Pair) (count : ℕ) → count + 1 < length ps → digest_frame_length (whole (take (count + 1) ps)) ≤ budget + cut_saves → budget + cut_saves < digest_frame_length (whole (take (count + 2) ps)) → IsLongestFront budget want from ps (digest_of_first want from ps count)
    longest-before ps count inside room over = record {
      count = count;
      most = omega arith;
      front = refl;
      fits = let cut = digest_frame_length-front ps count (omega arith) in omega arith;
      longest = λ more above most. elim (cases_lt more (length ps)) [
        | inl within ↦ let cut = digest_frame_length-front ps more within in let rise = frames_rise ps (count + 2) (more + 1) (omega arith) in omega arith
        | inr beyond ↦
            let end : length ps ≡ more = omega arith in
            let family : ℕ → Type 0 = λ n. budget < digest_frame_length (digest_of_first want from ps n) in
            let all = frames_all ps (count + 2) in
            subst family end (subst (λ (d : Digest). budget < digest_frame_length d) (sym (digest_of_first-all ps)) (omega arith))
      ];
    }

    -- the pairs so far, and one that has no room among them
    pub longest-cut : (xs : List Pair) (x : Pair) (rest : List Pair) → 0 < length xs → digest_frame_length (whole xs) ≤ budget + cut_saves → budget + cut_saves < digest_frame_length (whole (xs ++ x ∷ [])) → IsLongestFront budget want from (xs ++ x ∷ rest) (digest_of_first want from xs (length xs - 1))
    longest-cut xs x rest some room over =
        let count = length xs - 1 in
        let ps = xs ++ x ∷ rest in
        let size : length ps ≡ length xs + (1 + length rest) = omega (arith, length-append xs (x ∷ rest)) in
        let so_far : take (count + 1) ps ≡ xs = take_at xs (x ∷ rest) (count + 1) (omega arith) in
        let one_more : take (count + 2) ps ≡ xs ++ x ∷ [] = ap (take (count + 2)) (sym (append_assoc xs (x ∷ []) rest)) ∙ take_at (xs ++ x ∷ []) rest (count + 2) (omega (arith, length-append xs (x ∷ []))) in
        let pairs : take count ps ≡ take count xs = take-append-le count xs (x ∷ rest) (omega arith) in
        let end : slice_get ps count ≡ slice_get xs count = slice_get-get_or ps count nobody (omega arith) ∙ ap Some (get_or_append_left xs (x ∷ rest) nobody count (omega arith)) ∙ sym (slice_get-get_or xs count nobody (omega arith)) in
        let same : digest_of_first want from ps count ≡ digest_of_first want from xs count = rw (pairs, end) refl in
        subst (λ (d : Digest). IsLongestFront budget want from ps d) same (longest-before ps count (omega arith) (rw so_far room) (rw one_more over))

-- how long a digest of a name's length bounds is
pub bound_length-most : (from : Option (List ℕ)) → is_bound from ≡ true → bound_length from ≤ NAME_LENGTH_MOST
bound_length-most None is = omega arith
bound_length-most (Some name) is = omega (arith, leb-true (length name) NAME_MOST (and_parts (leb 1 (length name)) _ (and_parts _ (list_all is_name_byte name) is).0).1)

pub owner-most : (p : Pair) → is_pair p ≡ true → length p.owner ≤ NAME_MOST
owner-most p is =
    let name : is_name p.owner ≡ true = (and_parts _ _ (and_parts _ _ (and_parts _ _ is).0).0).0 in
    leb-true (length p.owner) NAME_MOST (and_parts (leb 1 (length p.owner)) _ (and_parts _ (list_all is_name_byte p.owner) name).0).1

abbrev pair_most : ℕ
pair_most = NAME_LENGTH_MOST + 3 * NUMBER_LENGTH

-- a frame without pairs and without an end
abbrev head_most : ℕ
head_most = HEADER_LENGTH + HEAD_LENGTH_MOST

pairs_length-most : (ps : List Pair) → list_all is_pair ps ≡ true → sum_by pair_length ps ≤ pair_most * length ps
pairs_length-most [] is = omega arith
pairs_length-most (p ∷ ps) is =
    let parts = and_parts (is_pair p) (list_all is_pair ps) is in
    omega (arith, sum_by-cons pair_length p ps, owner-most p parts.0, pairs_length-most ps parts.1)

pub digest_frame_length-most : (want : Bool) (from : Option (List ℕ)) (ps : List Pair) → is_bound from ≡ true → list_all is_pair ps ≡ true → digest_frame_length (digest_of want from None ps) ≤ head_most + pair_most * length ps
digest_frame_length-most want from ps bound pairs = omega (arith, bound_length-most from bound, pairs_length-most ps pairs)

pairs_length-least : (ps : List Pair) → (BYTE_LENGTH + 3 * NUMBER_LENGTH) * length ps ≤ sum_by pair_length ps
pairs_length-least [] = omega arith
pairs_length-least (p ∷ ps) = omega (arith, sum_by-cons pair_length p ps, pairs_length-least ps)

-- a payload has no room for more
pub few_pairs : (d : Digest) → is_digest d ≡ true → length d.pairs < 2 ^ 16
few_pairs d is =
    let parts = (and_parts _ (are_digest_parts d) is).1 in
    omega (arith, leb-true (digest_length d) PAYLOAD_MOST (and_parts _ (leb (digest_length d) PAYLOAD_MOST) parts).1, pairs_length-least d.pairs)
