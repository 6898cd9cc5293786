use Rattle.std.proofs.Common.{◌≡◌, ◌&&◌, nat_le, drop}
use Rattle.sb_types.specs.Runs.{are_ascending, last_version}
use Rattle.sb_table.specs.Floors.{are_live}
use Rattle.sb_table.proofs.restore.are_live_within.Given as goal

abbrev pub invariant-loop-entry : goal.invariant-loop-entry
invariant-loop-entry l =
    (are_ascending l.last (drop l.entry-index l.entries) && (nat_le (last_version l.last (drop l.entry-index l.entries)) l.upto && are_live l.floor (drop l.entry-index l.entries)))
    ≡ (are_ascending 0 l.entries && (nat_le (last_version 0 l.entries) l.upto && are_live l.floor l.entries))
