use Rattle.std.proofs.Common.{◌≡◌, ◌++◌}
use Rattle.std.specs.Prelude.{flat_map}
use Rattle.std.specs.Fmt.{HasWritten, IsPlainFormatter}
use lib.Utf8.{encodes}
use Rattle.sb_types.specs.Spelling.{printed_char}
use Rattle.sb_types.proofs.spelled.SpelledDisplay.fmt.Given as goal

abbrev pub invariant-loop-c : goal.invariant-loop-c
invariant-loop-c g l = record {
  written : IsPlainFormatter l.fn.f → HasWritten g.W.Write.write_str_gives l.fn.f (flat_map printed_char l.yielded) l.f;
  text : encodes l.yielded ++ l.c-iterator.rest.now ≡ l.fn.self.0.now;
}
