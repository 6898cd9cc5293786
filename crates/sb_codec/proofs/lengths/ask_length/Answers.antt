use Rattle.std.proofs.Common.{arith}
use Rattle.sb_codec.proofs.Sizes.{ask-spelled}
use Rattle.sb_codec.proofs.lengths.ask_length.Goals as goal

pub returns-clause-length : goal.returns-clause-length
returns-clause-length c =
    rw c.bytes.ensures.text (omega (arith, ask-spelled c.args.ask.now, c.optional_name_length.ensures.length, c.place_length.ensures.length))
