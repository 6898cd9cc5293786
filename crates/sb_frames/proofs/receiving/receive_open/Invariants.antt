use Rattle.std.proofs.Common.{◌≡◌, ◌+◌}
use Rattle.sb_frames.specs.Receiving.{held_of}
use Rattle.sb_frames.proofs.OutOfReaders.{Reading}
use Rattle.sb_frames.proofs.receiving.receive_open.Given as goal

abbrev pub invariant-loop-message : goal.invariant-loop-message
invariant-loop-message g l = record {
  reading : Reading (held_of l.fn.frames) l.frames (g.R.Read.remaining l.fn.reader) (g.R.Read.remaining l.reader) l.fn.left l.left;
  counted : l.steps + l.left ≡ l.fn.steps + l.fn.left;
}

abbrev pub decreases-loop-message : goal.decreases-loop-message
decreases-loop-message g l = l.left
