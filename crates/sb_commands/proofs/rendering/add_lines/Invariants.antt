use Rattle.std.proofs.Common.{◌≡◌, ◌++◌, length, []}
use Rattle.sb_commands.specs.Rendering.{owner_lines}
use Rattle.sb_commands.proofs.rendering.add_lines.Given as goal

abbrev pub invariant-loop-row : goal.invariant-loop-row
invariant-loop-row l = l.out.items ++ owner_lines l.pieces l.before l.rest ≡ l.fn.out.items ++ owner_lines l.pieces [] l.rows

abbrev pub decreases-loop-row : goal.decreases-loop-row
decreases-loop-row l = length l.rest
