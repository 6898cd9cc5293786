use Rattle.sb_frames.proofs.Fronts.{front_extends}
use Rattle.sb_frames.proofs.laws.verdicts_stand.Goals as goal

pub returns : goal.returns
returns c = front_extends
