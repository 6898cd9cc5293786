use Rattle.std.proofs.Common.{arith}
use Rattle.sb_codec.proofs.Sizes.{put-spelled}
use Rattle.sb_codec.proofs.lengths.put_length.Goals as goal

pub returns-clause-length : goal.returns-clause-length
returns-clause-length c =
    rw c.bytes.ensures.text (omega (arith, put-spelled c.args.write.now, c.encoded_length.ensures.length))
