-- Facts on runs of entries.
use Rattle.std.proofs.Common.{◌≡◌, ℕ, suc, ◌-◌, ◌<◌, List, [], ◌∷◌, length, get_or, refl, arith, ◌∙◌}
use Rattle.sb_types.specs.Records.{Entry}
use Rattle.sb_types.specs.Runs.{last_version}

-- the last version is that of the last entry
pub last_version-get_or : (before : ℕ) (entries : List Entry) (d : Entry) → 0 < length entries → last_version before entries ≡ (get_or entries (length entries - 1) d).version
last_version-get_or before [] d some = absurd (omega arith)
last_version-get_or before (x ∷ []) d some = refl
last_version-get_or before (x ∷ y ∷ ys) d some =
    let k : length (x ∷ y ∷ ys) - 1 ≡ suc (length (y ∷ ys) - 1) = omega arith in
    last_version-get_or x.version (y ∷ ys) d (omega arith) ∙ rw k refl
