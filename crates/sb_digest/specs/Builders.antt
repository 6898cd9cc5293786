-- The digest that has the most pairs of a list within a budget.
use Rattle.std.specs.Prelude.{◌≡◌, ℕ, ◌+◌, ◌≤◌, ◌<◌, Bool, true, ◌&&◌, nat_le, List, [], ◌∷◌, ◌++◌, length, take, slice_get, Option, None}
use Rattle.std.specs.List.{list_all}
use Rattle.std.specs.Option.{option_map}
use Rattle.sb_types.specs.declared.limits.TheConstants.{BUDGET_LEAST, BUDGET_MOST}
use Rattle.sb_types.specs.Limits.{text_lt}
use Rattle.sb_holdings.specs.Plain.{is_from}
use Rattle.sb_digest.specs.Digests.{Pair, Digest, digest_of}
use Rattle.sb_digest.specs.Lengths.{digest_frame_length}
use Rattle.sb_digest.specs.Limits.{are_pairs_above, is_bound, is_pair}

-- the digest of the first pairs, which ends before the next pair's owner; if there is no next pair, its range has no
-- end
abbrev pub digest_of_first : Bool → Option (List ℕ) → List Pair → ℕ → Digest
digest_of_first want from pairs count = digest_of want from (option_map (λ pair. pair.owner) (slice_get pairs count)) (take count pairs)

-- of the prefixes of the pairs whose frames are within the budget, the longest
pub record IsLongestFront (budget : ℕ) (want : Bool) (from : Option (List ℕ)) (pairs : List Pair) (d : Digest) : Type 0 where
  pub count : ℕ
  pub most : count ≤ length pairs
  pub front : d ≡ digest_of_first want from pairs count
  pub fits : digest_frame_length d ≤ budget
  pub longest : (more : ℕ) → count < more → more ≤ length pairs → budget < digest_frame_length (digest_of_first want from pairs more)

-- the pairs so far, from a bound on
pub record DigestBuilder : Type 0 where
  pub budget : ℕ
  pub from : Option (List ℕ)
  pub pairs : List Pair

abbrev pub with_pair : DigestBuilder → Pair → DigestBuilder
with_pair f pair = record { budget = f.budget; from = f.from; pairs = f.pairs ++ pair ∷ [] }

-- how many bytes it saves to end before a pair: its three numbers, and one length byte. Its owner's name becomes the
-- end of the range, which has a length byte in any case
abbrev pub cut_saves : ℕ
cut_saves = 25

-- a digest of all pairs except the last is within the budget
abbrev pub has_room : DigestBuilder → Bool
has_room f = nat_le (digest_frame_length (digest_of true f.from None f.pairs)) (f.budget + cut_saves)

-- the pair's owner is in the range, and after the owners so far
abbrev pub comes_next : DigestBuilder → Pair → Bool
comes_next f pair = is_from f.from pair.owner && list_all (λ before. text_lt before.owner pair.owner) f.pairs

pub record IsDigestBuilder (f : DigestBuilder) : Type 0 where
  pub least : BUDGET_LEAST ≤ f.budget
  pub most : f.budget ≤ BUDGET_MOST
  pub bound : is_bound f.from ≡ true
  pub pairs : list_all is_pair f.pairs ≡ true
  pub reached : list_all (λ pair. is_from f.from pair.owner) f.pairs ≡ true
  pub ascending : are_pairs_above [] f.pairs ≡ true
  pub room : has_room f ≡ true
