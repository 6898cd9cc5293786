use Rattle.std.proofs.Common.{ℕ, ◌≤◌}
use Rattle.sb_script.specs.Reads.{AreCounted}
use Rattle.sb_script.specs.Script.{bytes_to_come}
use Rattle.sb_script.specs.Told.{PlaysLines}
use Rattle.sb_script.specs.Written.{output_contents}
use Rattle.sb_script.proofs.sim.play_in.Given as goal

abbrev pub invariant-loop-world : goal.invariant-loop-world
invariant-loop-world g l =
    AreCounted l.fn.steps l.fn.lines.left l.steps l.lines.left
    × (bytes_to_come l.lines.left l.lines.at l.lines.end
    ≤ bytes_to_come l.fn.lines.left l.fn.lines.at l.fn.lines.end)
    × ((count : ℕ) × PlaysLines l.fn.detail count l.fn.world (output_contents g.W.Write.contents l.fn.output) (output_contents g.W.Write.contents l.output) l.world)

abbrev pub decreases-loop-world : goal.decreases-loop-world
decreases-loop-world g l = bytes_to_come l.lines.left l.lines.at l.lines.end
