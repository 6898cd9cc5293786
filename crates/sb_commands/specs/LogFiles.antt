-- Which writes an opening of a log would drop, by the lengths of its two files.
use Rattle.std.specs.Prelude.{◌≡◌, ◌<◌, ℕ}

-- a `-wal` without a write has its head alone: 41 bytes at most
abbrev pub has_no_write_most : ℕ
has_no_write_most = 41

-- those of a `-wal` that has some, if the file beside it has no byte
abbrev pub DropsWrites : ℕ → ℕ → Type 0
DropsWrites log wal = (log ≡ 0) × (has_no_write_most < wal)
