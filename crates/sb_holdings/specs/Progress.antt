-- What is known never goes back.
use Rattle.std.specs.Prelude.{◌≡◌, ◌≤◌, ◌<◌, ◌⊎◌}
use Rattle.sb_types.specs.Records.{Entry, Table}
use Rattle.sb_types.specs.Runs.{Stands}

-- the held version does not fall, and each entry was there or is newer than the old held version
pub record Onward (a b : Table) : Type 0 where
  pub held : a.held ≤ b.held
  pub each : (e : Entry) → Stands b.entries e → Stands a.entries e ⊎ (a.held < e.version)

-- the held version does not fall, and no key's version falls
pub record Later (a b : Table) : Type 0 where
  pub held : a.held ≤ b.held
  pub versions : (x y : Entry) → Stands a.entries x → Stands b.entries y → x.key ≡ y.key → x.version ≤ y.version
