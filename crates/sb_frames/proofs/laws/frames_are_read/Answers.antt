use Rattle.sb_frames.proofs.Fronts.{front_frame}
use Rattle.sb_frames.proofs.laws.frames_are_read.Goals as goal

pub returns : goal.returns
returns c = front_frame
