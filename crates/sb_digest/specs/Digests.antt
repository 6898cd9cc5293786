-- Digests as plain data, and how they are read.
use Rattle.std.specs.Prelude.{ℕ, Bool, true, ◌&&◌, if◌then◌else◌, List, find, count_by, nat_eq, nat_le, Option, Some, None, unwrap_or}
use Rattle.std.specs.Option.{option_map_or}
use Rattle.std.specs.Ordering.{nat_cmp, is_le}
use Rattle.std.specs.Cmp.Lexicographic.{slice_cmp, pointwise}
use Rattle.sb_types.specs.Limits.{text_lt}
use Rattle.sb_holdings.specs.Plain.{is_from}

-- how far an owner's writes are held: the held version; and if a stage will replace the shown table, its floor and its
-- progress, else 0 and 0
pub record Pair : Type 0 where
  pub owner : List ℕ
  pub held : ℕ
  pub floor : ℕ
  pub progress : ℕ

-- how far the owners are held whose names are at or after from, and before until
pub record Digest : Type 0 where
  pub want : Bool
  pub from : Option (List ℕ)
  pub until : Option (List ℕ)
  pub pairs : List Pair

-- the pair of an owner without a stage
abbrev pub plain_pair : List ℕ → ℕ → Pair
plain_pair owner held = record { owner = owner; held = held; floor = 0; progress = 0 }

-- the pair of an owner with a stage of this floor and this progress, or without a stage
abbrev pub staged_pair : List ℕ → ℕ → Option (ℕ × ℕ) → Pair
staged_pair owner held staged = let s = unwrap_or staged (0, 0) in record { owner = owner; held = held; floor = s.0; progress = s.1 }

abbrev pub digest_of : Bool → Option (List ℕ) → Option (List ℕ) → List Pair → Digest
digest_of want from until pairs = record { want = want; from = from; until = until; pairs = pairs }

-- the name is below the bound, or there is no bound
abbrev pub is_below : Option (List ℕ) → List ℕ → Bool
is_below None name = true
is_below (Some until) name = text_lt name until

-- the owner is in the digest's range
abbrev pub covers : Digest → List ℕ → Bool
covers d owner = is_from d.from owner && is_below d.until owner

abbrev pub pair_at : List ℕ → List Pair → Option Pair
pair_at owner pairs = find (λ pair. pointwise nat_eq pair.owner owner) pairs

-- the held version that the digest reports of an owner, or 0 if the owner has no pair
abbrev pub held_in : Digest → List ℕ → ℕ
held_in d owner = option_map_or (λ pair. pair.held) (pair_at owner d.pairs) 0

-- the stage can go on from a sender with this floor that holds up to this version: the sender's floor is at or below the
-- stage's, and the sender holds as far as that
abbrev pub goes_on_at : ℕ → ℕ → Pair → Bool
goes_on_at floor held p = nat_le floor p.floor && nat_le p.floor held

-- the number above which a sender with this floor and this held version offers entries
abbrev pub number_by : ℕ → ℕ → Option Pair → ℕ
number_by floor held None = 0
number_by floor held (Some p) = if nat_le floor p.held then p.held else (if goes_on_at floor held p then p.progress else 0)

-- the floor under which it offers them: its own if the peer holds as far as that, else the floor of the stage that goes
-- on, else its held version
abbrev pub floor_by : ℕ → ℕ → Option Pair → ℕ
floor_by floor held None = if nat_le floor 0 then floor else held
floor_by floor held (Some p) = if nat_le floor p.held then floor else (if goes_on_at floor held p then p.floor else held)

abbrev pub number_in : Digest → List ℕ → ℕ → ℕ → ℕ
number_in d owner floor held = number_by floor held (pair_at owner d.pairs)

abbrev pub floor_in : Digest → List ℕ → ℕ → ℕ → ℕ
floor_in d owner floor held = floor_by floor held (pair_at owner d.pairs)

-- how many pairs are of the owner or of owners before it
abbrev pub at_or_below : List ℕ → List Pair → ℕ
at_or_below owner pairs = count_by (λ pair. is_le (slice_cmp nat_cmp pair.owner owner)) pairs
