use Rattle.std.proofs.Common.{◌≡◌, ◌≤◌, ◌++◌, length, take}
use Rattle.sb_types.specs.Spelling.{printed_text}
use Rattle.sb_types.proofs.escapes.unescape.Given as goal

abbrev pub invariant-loop-rest : goal.invariant-loop-rest
invariant-loop-rest l = record {
  word : l.word ≡ printed_text (take l.count l.room) ++ l.rest;
  count : l.count ≤ 512;
  room : length l.room ≡ 512;
}

abbrev pub decreases-loop-rest : goal.decreases-loop-rest
decreases-loop-rest l = length l.rest
