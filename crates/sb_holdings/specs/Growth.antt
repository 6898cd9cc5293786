-- Writes that grew by more writes.
use Rattle.std.specs.Prelude.{◌≡◌, ℕ, List, ◌++◌}
use Rattle.sb_types.specs.declared.entry.Write.{Write}

-- each owner has what it had written, and perhaps more after that
abbrev pub Grows : (List ℕ → List Write) → (List ℕ → List Write) → Type 0
Grows old new = (owner : List ℕ) → (more : List Write) × (new owner ≡ old owner ++ more)
