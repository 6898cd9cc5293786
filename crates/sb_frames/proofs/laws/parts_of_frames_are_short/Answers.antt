use Rattle.sb_frames.proofs.Splitting.{part_short}
use Rattle.sb_frames.proofs.laws.parts_of_frames_are_short.Goals as goal

pub returns : goal.returns
returns c = part_short
