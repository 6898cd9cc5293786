use Rattle.std.proofs.Common.{arith}
use Rattle.sb_codec.proofs.Sizes.{hello-spelled}
use Rattle.sb_codec.proofs.lengths.hello_length.Goals as goal

pub returns-clause-length : goal.returns-clause-length
returns-clause-length c = rw (c.bytes.ensures.text, c.bytes-2.ensures.text) (omega (arith, hello-spelled c.args.hello.now))
