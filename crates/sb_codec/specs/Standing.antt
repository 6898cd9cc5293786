-- What was written is still there after more was written, or after that was refused half way.
use Rattle.std.specs.Prelude.{◌≡◌, ℕ, List, ◌++◌}

-- the bytes are at the beginning, and whatever was written is after them
pub record StandsFirst (bytes all : List ℕ) : Type 0 where
  pub behind : List ℕ
  pub laid : all ≡ bytes ++ behind
