-- How many seats a node has if its command line gives no number.
use Rattle.std.specs.Prelude.{ℕ, ◌+◌, max, min}
use Rattle.sb_types.specs.declared.limits.TheConstants.{SEATS_MOST}

-- one for each worker, each peer that gets news at once and each connection over HTTP, and two more; no more than there may be, unless
-- the workers alone need more
abbrev pub seats_for : ℕ → ℕ → ℕ → ℕ
seats_for workers fanout http = max (workers + 2) (min (workers + 2 + fanout + http) SEATS_MOST)
