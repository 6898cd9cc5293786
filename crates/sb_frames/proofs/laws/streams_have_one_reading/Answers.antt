use Rattle.sb_frames.proofs.Splitting.{one_reading}
use Rattle.sb_frames.proofs.laws.streams_have_one_reading.Goals as goal

pub returns : goal.returns
returns c = one_reading
