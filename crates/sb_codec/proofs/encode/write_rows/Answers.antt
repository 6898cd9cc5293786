use Rattle.sb_codec.proofs.Bodies.{few_rows}
use Rattle.sb_codec.proofs.encode.write_rows.Goals as goal

pub write_list-requires : goal.write_list-requires
write_list-requires c = rw c.rows.ensures.rows (few_rows c.args.rows.now c.rows.ensures.page)
