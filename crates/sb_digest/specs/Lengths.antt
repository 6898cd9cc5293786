-- How many bytes a digest takes in its one spelling.
use Rattle.std.specs.Prelude.{ℕ, ◌+◌, List, length, sum_by, Option, Some, None}
use Rattle.sb_types.specs.declared.format.TheConstants.{HEADER_LENGTH}
use Rattle.sb_digest.specs.Digests.{Pair, Digest}

-- a length byte, and the name if there is one
abbrev pub bound_length : Option (List ℕ) → ℕ
bound_length None = 1
bound_length (Some name) = 1 + length name

-- the owner's length byte and text, the held version, and the floor and the progress of the stage
abbrev pub pair_length : Pair → ℕ
pair_length p = 25 + length p.owner

-- the kind, whether an answer is wanted, the two bounds, the number of pairs, and the pairs
abbrev pub digest_length : Digest → ℕ
digest_length d = 4 + bound_length d.from + bound_length d.until + sum_by pair_length d.pairs

abbrev pub digest_frame_length : Digest → ℕ
digest_frame_length d = HEADER_LENGTH + digest_length d
