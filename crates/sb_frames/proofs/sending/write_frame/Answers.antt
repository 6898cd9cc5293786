use Rattle.std.proofs.Common.{arith}
use Rattle.std.proofs.lemmas.Grind.{common_steps}
use Rattle.sb_frames.specs.Frames.{frame, frame_of_payload}
use Rattle.sb_codec.specs.Spelling.{number}
use Rattle.sb_frames.proofs.sending.write_frame.Goals as goal

pub returns-clause-frame : goal.returns-clause-frame
unfolding frame frame_of_payload number
returns-clause-frame c = grind (arith, common_steps)
