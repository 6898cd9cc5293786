-- When a node prints a line about what it suffers.
use Rattle.std.specs.Prelude.{ℕ, ◌+◌, ◌-◌, nat_le, nat_lt, ◌==◌, if◌then◌else◌, Option, Some, None}

-- the first line comes at once, and each other one at least a minute after the one before; it reports what happened since then
abbrev pub due : ℕ → ℕ → ℕ → ℕ → Option ℕ
due count printed printed_at now =
    if nat_le count printed then None
    else (if printed == 0 then Some count
    else (if nat_lt now (printed_at + 60000) then None else Some (count - printed)))
