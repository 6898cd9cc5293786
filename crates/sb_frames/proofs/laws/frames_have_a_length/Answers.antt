use Rattle.sb_frames.proofs.Splitting.{length-frame, within_frame}
use Rattle.sb_frames.proofs.laws.frames_have_a_length.Goals as goal

pub returns-clause-length : goal.returns-clause-length
returns-clause-length c = length-frame

pub returns-clause-limits : goal.returns-clause-limits
returns-clause-limits c = within_frame
