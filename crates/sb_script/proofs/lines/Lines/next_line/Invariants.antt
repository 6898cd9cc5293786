use Rattle.std.proofs.Common.{◌+◌, ◌≤◌, vec_len}
use Rattle.sb_script.specs.Reads.{AreCounted}
use Rattle.sb_script.specs.Script.{bytes_to_come}
use Rattle.sb_script.proofs.lines.Lines.next_line.Given as goal

abbrev pub invariant-loop-self : goal.invariant-loop-self
invariant-loop-self g l =
    AreCounted l.fn.steps l.fn.self.left l.steps l.self.left
    × (vec_len l.self.line + bytes_to_come l.self.left l.self.at l.self.end
    ≤ bytes_to_come l.fn.self.left l.fn.self.at l.fn.self.end)

abbrev pub decreases-loop-self : goal.decreases-loop-self
decreases-loop-self g l = bytes_to_come l.self.left l.self.at l.self.end
