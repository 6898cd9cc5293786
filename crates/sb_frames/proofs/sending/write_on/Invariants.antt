use Rattle.std.proofs.Common.{◌≡◌, ◌+◌, ◌-◌, ◌*◌, ◌≤◌, false, length, take}
use Rattle.sb_frames.specs.Sending.{has_failed, times_of}
use Rattle.std.specs.Io.KnownBytes.{Appends}
use Rattle.sb_frames.proofs.sending.write_on.Given as goal

abbrev pub invariant-loop-count : goal.invariant-loop-count
invariant-loop-count g l = record {
  within : l.count ≤ length l.bytes;
  goes_on : has_failed l.last ≡ false;
  written : Appends (g.W.Write.contents l.initial.writer) (g.W.Write.contents l.writer) (take l.count l.bytes);
}

abbrev pub decreases-loop-count : goal.decreases-loop-count
decreases-loop-count g l = (length l.bytes - l.count) * 1002 + (1001 - times_of l.last)
