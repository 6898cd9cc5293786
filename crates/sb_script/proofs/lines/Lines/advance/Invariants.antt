use Rattle.std.proofs.Common.{◌≤◌}
use Rattle.sb_script.specs.Reads.{AreCounted}
use Rattle.sb_script.specs.Script.{bytes_to_come}
use Rattle.sb_script.proofs.lines.Lines.advance.Given as goal

abbrev pub invariant-loop : goal.invariant-loop
invariant-loop g l =
    AreCounted l.fn.steps l.fn.self.left l.steps l.self.left
    × (bytes_to_come l.self.left l.self.at l.self.end
    ≤ bytes_to_come l.fn.self.left l.fn.self.at l.fn.self.end)

abbrev pub decreases-loop : goal.decreases-loop
decreases-loop g l = bytes_to_come l.self.left l.self.at l.self.end
