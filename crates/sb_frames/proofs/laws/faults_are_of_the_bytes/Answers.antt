use Rattle.sb_frames.proofs.Fronts.{not_for_memory, of_a_frame}
use Rattle.sb_frames.proofs.laws.faults_are_of_the_bytes.Goals as goal

pub returns-clause-memory : goal.returns-clause-memory
returns-clause-memory c = not_for_memory

pub returns-clause-kind : goal.returns-clause-kind
returns-clause-kind c = of_a_frame
