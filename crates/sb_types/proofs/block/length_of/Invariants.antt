use Rattle.std.proofs.Common.{◌≡◌, ◌≤◌, ◌*◌, true, take}
use Rattle.std.specs.List.{list_all}
use Rattle.sb_types.specs.declared.format.TheConstants.{ENTRY_LENGTH_MOST}
use Rattle.sb_types.specs.Lengths.{entries_length}
use Rattle.sb_types.specs.Limits.{is_entry}
use Rattle.sb_types.proofs.block.length_of.Given as goal

abbrev pub invariant-loop-entry : goal.invariant-loop-entry
invariant-loop-entry l =
    (l.total ≡ entries_length (take l.entry-index l.entries)) × (list_all is_entry (take l.entry-index l.entries) ≡ true)
    × (l.total ≤ ENTRY_LENGTH_MOST * l.entry-index)
