use Rattle.sb_codec.proofs.Parts.{few_blocks}
use Rattle.sb_codec.proofs.encode.write_delta.Goals as goal

pub write_list-requires : goal.write_list-requires
write_list-requires c = rw c.blocks-2.ensures.blocks (few_blocks c.args.delta.now c.blocks-2.ensures.delta)
