use Rattle.sb_frames.proofs.Fronts.{are_bytes, whole_frame}
use Rattle.sb_frames.proofs.laws.only_frames_are_read.Goals as goal

pub returns : goal.returns
returns c = λ bytes message rest are e. whole_frame bytes message rest (are_bytes bytes are) e
