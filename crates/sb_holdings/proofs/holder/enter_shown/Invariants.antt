use Rattle.std.proofs.Common.{◌≡◌, take}
use Rattle.sb_table.specs.Floors.{IsKeptTable}
use Rattle.sb_holdings.specs.Plain.{with_entries}
use Rattle.sb_holdings.proofs.holder.enter_shown.Given as goal

abbrev pub invariant-loop-count : goal.invariant-loop-count
invariant-loop-count l = record { entered : l.shown ≡ with_entries l.initial.shown (take l.count l.entries); table : IsKeptTable l.shown }
