-- Which entries of the owner's own table a block lacks.
use Rattle.std.specs.Prelude.{◌≤◌, ◌<◌}
use Rattle.sb_types.specs.Records.{Entry, Block}
use Rattle.sb_types.specs.Runs.{Stands}
use Rattle.sb_types.specs.Writes.{Gone}

-- the block reaches from below the entry's version up to it, and does not have the entry, although its floor lets the
-- entry stay
pub record IsMissing (b : Block) (own : Entry) : Type 0 where
  pub after : b.after < own.version
  pub upto : own.version ≤ b.upto
  pub lacks : Stands b.entries own → ⊥
  pub stays : Gone b.floor own → ⊥
