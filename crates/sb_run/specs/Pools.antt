-- What a pool leaves of its seats.
use Rattle.std.specs.Prelude.{◌≡◌, ℕ, ◌<◌, List, length, slice_index_or}
use Rattle.sb_directory.specs.Seats.{Seat}
use Rattle.sb_directory.specs.Serving.{IsStill, IsLater}

-- what the seat has seen and its last call only grow, and so does the number of events that it made; where the gate is shut it made none, and has seen no more
pub record IsKept (shut : Type 0) (old new : Seat) : Type 0 where
  pub later : IsLater old new
  pub still : shut → IsStill old new

-- the same seats, each of them so kept
pub record AreKept (shut : Type 0) (old new : List Seat) : Type 0 where
  pub as_many : length new ≡ length old
  pub each : (k : ℕ) (d : Seat) → k < length old → IsKept shut (slice_index_or old k d) (slice_index_or new k d)
