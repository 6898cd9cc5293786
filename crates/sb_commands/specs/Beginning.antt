-- After which version a log begins.
use Rattle.std.specs.Prelude.{◌≡◌, ℕ, ◌≤◌, ◌<◌}
use Rattle.sb_types.specs.declared.limits.TheConstants.{VERSION_MOST}
use Rattle.sb_commands.specs.declared.beginning.TheConstants.{UNHEARD_MOST}
use Rattle.sb_commands.specs.declared.beginning.Start.{Start}
use Rattle.sb_commands.specs.declared.beginning.Start.TheVariants.{After, From}

abbrev pub IsWithinLimits : ℕ → Type 0
IsWithinLimits version = (1 ≤ version) × (version ≤ VERSION_MOST)

-- the version that is given, or one so far after the version that a node heard of, which is at least 1
abbrev pub IsMeant : Start → ℕ → Type 0
IsMeant (After given place) version = version ≡ given
IsMeant (From sock) version = UNHEARD_MOST < version
