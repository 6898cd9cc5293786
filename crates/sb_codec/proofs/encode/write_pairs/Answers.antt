use Rattle.sb_codec.proofs.Bodies.{few_pairs}
use Rattle.sb_codec.proofs.encode.write_pairs.Goals as goal

pub write_list-requires : goal.write_list-requires
write_list-requires c = rw c.pairs.ensures.pairs (few_pairs c.args.digest.now c.pairs.ensures.digest)
