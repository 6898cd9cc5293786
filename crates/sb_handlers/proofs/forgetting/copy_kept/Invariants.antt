use Rattle.std.proofs.Common.{◌≡◌, take}
use Rattle.sb_handlers.specs.Forgetting.{kept_blocks}
use Rattle.sb_handlers.proofs.forgetting.copy_kept.Given as goal

abbrev pub invariant-loop-block : goal.invariant-loop-block
invariant-loop-block l = l.kept.items ≡ kept_blocks l.names (take l.block-index l.blocks)
