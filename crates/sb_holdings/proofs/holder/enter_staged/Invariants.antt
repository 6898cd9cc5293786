use Rattle.std.proofs.Common.{◌≡◌, take}
use Rattle.sb_table.specs.Floors.{IsKeptStage}
use Rattle.sb_holdings.specs.Holders.{stage_with_entries}
use Rattle.sb_holdings.proofs.holder.enter_staged.Given as goal

abbrev pub invariant-loop-number : goal.invariant-loop-number
invariant-loop-number l = record { entered : l.stage ≡ stage_with_entries l.initial.stage (take l.number l.entries); stage : IsKeptStage l.stage }
