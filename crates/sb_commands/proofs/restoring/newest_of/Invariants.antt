use Rattle.std.proofs.Common.{◌≡◌, drop}
use Rattle.sb_commands.specs.Restoring.{newest_of}
use Rattle.sb_commands.proofs.restoring.newest_of.Given as goal

-- what is left has the same newest version with the newest so far as all have with the one that was heard
abbrev pub invariant-loop-row : goal.invariant-loop-row
invariant-loop-row l = newest_of l.newest (drop l.row-index l.rows) ≡ newest_of l.heard l.rows
