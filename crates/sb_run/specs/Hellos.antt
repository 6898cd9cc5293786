-- What a session of a node writes first.
use Rattle.std.specs.Prelude.{◌⊎◌, ℕ, List, Option}
use Rattle.std.specs.Io.KnownBytes.{Appends}
use mathlib.Core.List.{IsPrefix}
use Rattle.sb_frames.specs.Frames.{frame}
use Rattle.sb_session.specs.Sessions.{new_session, hello_of}

-- the frame of its Hello
abbrev pub greeting : List ℕ → List ℕ → List ℕ
greeting cluster me = frame (hello_of (new_session cluster me))

-- what is written begins with its Hello, or is the front of it
abbrev pub Greets : List ℕ → List ℕ → Option (List ℕ) → Option (List ℕ) → Type 0
Greets cluster me old new =
    (out : List ℕ) × Appends old new out × (IsPrefix (greeting cluster me) out ⊎ IsPrefix out (greeting cluster me))
