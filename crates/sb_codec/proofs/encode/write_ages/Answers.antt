use Rattle.sb_codec.proofs.Bodies.{few_ages}
use Rattle.sb_codec.proofs.encode.write_ages.Goals as goal

pub write_list-requires : goal.write_list-requires
write_list-requires c = rw c.list.ensures.list (few_ages c.args.ages.now c.list.ensures.ages)
