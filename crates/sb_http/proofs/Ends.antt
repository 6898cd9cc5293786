-- A read that gives no byte finds the end.
use Rattle.std.proofs.Common.{◌≡◌, ℕ, Bool, true, false, ◌==◌, if◌then◌else◌, List, length, sym, ◌∙◌, arith}

none-given : (n : ℕ) → (n == 0) ≡ true → n ≡ 0
none-given n is = grind (arith)

pub found-end : {At : Type 0} (before : Bool) (more : List ℕ) (n : ℕ) → before ≡ false → length more ≡ n → (n ≡ 0 → At)
    → (if before then before else length more == 0) ≡ true → At
found-end true more n before-is count at is = absurd (grind (arith, before-is))
found-end false more n before-is count at is = at (sym count ∙ none-given (length more) is)
