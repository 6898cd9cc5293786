-- The bytes of a connection: what came and was not taken out yet, and what is still to come.
use Rattle.std.specs.Prelude.{◌≡◌, ℕ, List, [], ◌∷◌, ◌++◌}
use Rattle.sb_types.specs.Runs.{Stands}
use Rattle.sb_frames.specs.Streams.{open_with}
use Rattle.sb_world.specs.Connections.{Connection}

-- these frames, laid end to end
abbrev pub bytes_of_lines : List (List ℕ) → List ℕ
bytes_of_lines [] = []
bytes_of_lines (frame ∷ frames) = frame ++ bytes_of_lines frames

-- what is held, and then what is left, is frames that were sent, laid end to end
pub record IsLine (sent : List (List ℕ)) (held left : List ℕ) : Type 0 where
  pub frames : List (List ℕ)
  pub each : (bytes : List ℕ) → Stands frames bytes → Stands sent bytes
  pub laid : held ++ left ≡ bytes_of_lines frames

-- no fault has shut the stream of a connection that exists
pub record IsTrueConnection (sent : List (List ℕ)) (c : Connection) : Type 0 where
  pub held : List ℕ
  pub stands : c.stream ≡ open_with held
  pub line : IsLine sent held c.left
