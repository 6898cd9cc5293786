use Rattle.sb_codec.proofs.Bodies.{few_figures, few_peers}
use Rattle.sb_codec.proofs.encode.write_figures_and_peers.Goals as goal

pub write_list-requires : goal.write_list-requires
write_list-requires c = rw c.figures.ensures.figures (few_figures c.args.status.now c.figures.ensures.status)

pub write_list-requires-2 : goal.write_list-requires-2
write_list-requires-2 c = rw c.peers.ensures.peers (few_peers c.args.status.now c.peers.ensures.status)
