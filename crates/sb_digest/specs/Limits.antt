-- Which parts make a digest.
use Rattle.std.specs.Prelude.{ℕ, ◌^◌, Bool, true, ◌&&◌, nat_le, nat_lt, List, [], ◌∷◌, Option, Some, None}
use Rattle.std.specs.List.{list_all}
use Rattle.sb_types.specs.declared.limits.TheConstants.{PAYLOAD_MOST}
use Rattle.sb_types.specs.Text.{is_name}
use Rattle.sb_types.specs.Limits.{text_lt}
use Rattle.sb_digest.specs.Digests.{Pair, Digest, is_below, covers}
use Rattle.sb_digest.specs.Lengths.{digest_length}

-- each owner's name is after the one before it, and the first is after last
abbrev pub are_pairs_above : List ℕ → List Pair → Bool
are_pairs_above last [] = true
are_pairs_above last (p ∷ ps) = text_lt last p.owner && are_pairs_above p.owner ps

-- from is below until, if both are given
abbrev pub is_range : Option (List ℕ) → Option (List ℕ) → Bool
is_range None until = true
is_range (Some from) until = is_below until from

-- the owners ascend, each is in the range, and the payload is within its limit. No name is empty, so each is after the
-- empty text
abbrev pub are_digest_parts : Digest → Bool
are_digest_parts d = is_range d.from d.until && are_pairs_above [] d.pairs && list_all (λ pair. covers d pair.owner) d.pairs && nat_le (digest_length d) PAYLOAD_MOST

abbrev pub is_bound : Option (List ℕ) → Bool
is_bound None = true
is_bound (Some name) = is_name name

abbrev pub is_pair : Pair → Bool
is_pair p = is_name p.owner && nat_lt p.held (2 ^ 64) && nat_lt p.floor (2 ^ 64) && nat_lt p.progress (2 ^ 64)

abbrev pub is_digest : Digest → Bool
is_digest d = is_bound d.from && is_bound d.until && list_all is_pair d.pairs && are_digest_parts d
