use Rattle.std.proofs.Common.{◌≡◌, drop}
use Rattle.sb_types.specs.Runs.{are_ascending}
use Rattle.sb_types.proofs.block.are_versions_ascending.Given as goal

abbrev pub invariant-loop-entry : goal.invariant-loop-entry
invariant-loop-entry l = are_ascending l.last (drop l.entry-index l.entries) ≡ are_ascending l.after l.entries
