-- Owners of whom a peer may lack writes, and what is offered to it of them.
use Rattle.std.specs.Prelude.{ℕ, false, nat_le, if◌then◌else◌, List, map, Option, Some, None}
use Rattle.std.specs.Ordering.{nat_cmp}
use Rattle.std.specs.Cmp.Lexicographic.{slice_cmp}
use Rattle.std.specs.FinMap.{FinMap, get, contains_key, insert, entries, from_sorted}
use Rattle.sb_types.specs.Records.{Table, Holder}
use Rattle.sb_holdings.specs.Held.{Held}
use Rattle.sb_digest.specs.Digests.{Pair, Digest, plain_pair, digest_of}
use Rattle.sb_budget.specs.Available.{ranked_of}
use Rattle.sb_budget.specs.Parts.{Part, part_of}

-- the owners of whom the peer may lack writes, each with the version up to which it has them
abbrev pub Backlog : Type 0
Backlog = FinMap (slice_cmp nat_cmp) ℕ

-- of a list in the order of the names
abbrev pub backlog_by : List (List ℕ × ℕ) → Backlog
backlog_by owners = from_sorted owners

-- with an owner added; one that is there keeps its version
abbrev pub with_version : Backlog → List ℕ → ℕ → Backlog
with_version backlog owner version = if contains_key backlog owner then backlog else insert backlog owner version

-- how far the peer has this table: all of it, unless its owner is in the backlog with a version at or above the floor
abbrev pub version_since : Table → Option ℕ → ℕ
version_since t None = t.held
version_since t (Some version) = if nat_le t.floor version then version else t.held

-- how far the peer has this owner
abbrev pub pair_since : Backlog → List ℕ × Holder → Pair
pair_since backlog p = plain_pair p.0 (version_since p.1.shown (get backlog p.0))

-- the digest of the peer, which has all that is held but what the backlog says
abbrev pub digest_since : Held → Backlog → Digest
digest_since held backlog = digest_of false None None (map (pair_since backlog) (entries held.owners))

-- what is offered of an owner that is in the backlog with this version: nothing if it is not held, or if its floor is above that
abbrev pub part_since : List ℕ → Option Table → ℕ → Option Part
part_since owner None version = None
part_since owner (Some t) version = if nat_le t.floor version then part_of (ranked_of owner t version) else None
