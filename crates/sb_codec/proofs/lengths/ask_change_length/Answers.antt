use Rattle.std.proofs.Common.{arith}
use Rattle.sb_codec.proofs.Sizes.{ask_change-spelled}
use Rattle.sb_codec.proofs.lengths.ask_change_length.Goals as goal

pub returns-clause-length : goal.returns-clause-length
returns-clause-length c = rw c.bytes.ensures.text (omega (arith, ask_change-spelled c.args.asked.now, c.optional_name_length.ensures.length))
