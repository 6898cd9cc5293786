use Rattle.std.proofs.Common.{◌≡◌}
use Rattle.sb_budget.proofs.delta_builder.blocks_from.Given as goal

abbrev pub invariant-loop-group : goal.invariant-loop-group
invariant-loop-group l = l.blocks.items ≡ l.yielded
