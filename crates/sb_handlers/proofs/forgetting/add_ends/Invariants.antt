use Rattle.std.proofs.Common.{◌≡◌, ◌+◌, ◌≤◌, ◌++◌, drop, length}
use Rattle.sb_handlers.specs.Forgetting.{told_ends}
use Rattle.sb_handlers.proofs.forgetting.add_ends.Given as goal

-- what is left to add makes of what was added what all adds; and there is room for an end of each block that is left
abbrev pub invariant-loop-block : goal.invariant-loop-block
invariant-loop-block l =
    (l.ends.items ++ told_ends l.names (drop l.block-index l.blocks) l.rest ≡ l.fn.ends.items ++ told_ends l.names l.blocks l.kept)
    × (length l.ends.items + length (drop l.block-index l.blocks) ≤ l.ends.cap)
