use Rattle.std.proofs.Common.{◌≡◌, ◌+◌, ◌≤◌}
use Rattle.sb_types.specs.declared.limits.TheConstants.{KEYS_MOST}
use Rattle.sb_commands.specs.Removals.{removals_in}
use Rattle.sb_commands.proofs.log_file.count_removals.Given as goal

-- those that are left are still to be counted
abbrev pub invariant-loop-entry : goal.invariant-loop-entry
invariant-loop-entry l = (l.count + removals_in l.entry-iterator ≡ removals_in l.table.entries) × (removals_in l.table.entries ≤ KEYS_MOST)
