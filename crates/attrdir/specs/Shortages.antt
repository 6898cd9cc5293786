-- When little is left of something.
use Rattle.std.specs.Prelude.{ℕ, ◌*◌, nat_le, Bool}

-- so many of at most so many are nine tenths or more
abbrev pub is_nearly : ℕ → ℕ → Bool
is_nearly count most = nat_le (most * 9) (count * 10)
