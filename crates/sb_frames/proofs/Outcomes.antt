-- How a write ended.
use Rattle.std.proofs.Common.{◌≡◌, ℕ, ◌≤◌, false, ◌==◌, if◌then◌else◌, arith}
use Rattle.std.proofs.lemmas.Bool.{ne_eqb, ltb-false}
use Rattle.sb_frames.specs.declared.last_write.Outcome.{Outcome}
use Rattle.sb_frames.specs.declared.last_write.Outcome.TheVariants.{Took, Interrupted, Failed}
use Rattle.sb_frames.specs.Sending.{has_failed, times_of}

-- one that took bytes did not fail
pub some_took : (count : ℕ) (outcome : Outcome) → outcome ≡ (if count == 0 then Failed else Took) → (count ≡ 0 → ⊥) → outcome ≡ Took
some_took count outcome is some = rw (ne_eqb count 0 some) at is

-- while none failed, few in a row were interrupted
pub few_times : (outcome : Outcome) → has_failed outcome ≡ false → times_of outcome ≤ 1000
few_times Took e = omega arith
few_times (Interrupted times) e = ltb-false 1000 times e
few_times Failed e = absurd cc
