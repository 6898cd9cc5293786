use Rattle.std.proofs.Common.{◌≡◌, ◌+◌, ◌≤◌, false}
use Rattle.std.specs.Io.KnownBytes.{Keeps}
use Rattle.sb_frames.proofs.steps.read_telling.Given as goal

abbrev pub invariant-loop-left : goal.invariant-loop-left
invariant-loop-left g l = record {
  keeps : Keeps (g.R.Read.remaining l.fn.reader) (g.R.Read.remaining l.reader);
  fewer : l.left ≤ l.fn.left;
  goes_on : l.last ≡ false;
  counted : l.steps + l.left ≡ l.fn.steps + l.fn.left;
}

abbrev pub decreases-loop-left : goal.decreases-loop-left
decreases-loop-left g l = l.left
