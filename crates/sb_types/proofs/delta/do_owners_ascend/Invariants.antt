use Rattle.std.proofs.Common.{◌≡◌, [], drop}
use Rattle.sb_types.specs.Limits.{are_owners_above}
use Rattle.sb_types.proofs.delta.do_owners_ascend.Given as goal

abbrev pub invariant-loop-block : goal.invariant-loop-block
invariant-loop-block l = are_owners_above l.last (drop l.block-index l.blocks) ≡ are_owners_above [] l.blocks
