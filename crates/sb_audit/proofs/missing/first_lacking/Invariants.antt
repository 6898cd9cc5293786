use Rattle.std.proofs.Common.{◌≡◌}
use Rattle.sb_types.specs.Runs.{newer_entries}
use Rattle.sb_audit.specs.Search.{first_lacking}
use Rattle.sb_audit.proofs.missing.first_lacking.Given as goal

-- the block lacks none of the entries so far
abbrev pub invariant-loop-own : goal.invariant-loop-own
invariant-loop-own l = first_lacking l.block l.own-iterator ≡ first_lacking l.block (newer_entries l.block.after l.table.entries)
