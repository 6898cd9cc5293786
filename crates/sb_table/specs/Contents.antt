-- A table that a log can have.
use Rattle.std.specs.Prelude.{◌≤◌, max}
use Rattle.sb_types.specs.Records.{Table}
use Rattle.sb_types.specs.Runs.{last_version}
use Rattle.sb_table.specs.Floors.{IsKeptTable}

-- the held version is at most the last entry's version or the floor, whichever is higher
pub record IsContent (t : Table) : Type 0 where
  pub table : IsKeptTable t
  pub held : t.held ≤ max t.floor (last_version 0 t.entries)
