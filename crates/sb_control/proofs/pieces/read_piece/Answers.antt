use Rattle.std.proofs.Common.{sym, ◌∙◌}
use Rattle.sb_control.proofs.ReadPieces.{has_waited, has_missed, fails_at_end, fails_with}
use Rattle.sb_control.proofs.pieces.read_piece.Goals as goal

pub returns-in-Err-TurnsSpent-clause-reads : goal.returns-in-Err-TurnsSpent-clause-reads
returns-in-Err-TurnsSpent-clause-reads g c = has_waited c.faults_are_of_the_bytes.ensures.kind _ _ _ _ _ _ _ c.in-Err-TurnsSpent.field-0-is c.in-Err-TurnsSpent.ensures.1

pub returns-in-Err-clause-reads : goal.returns-in-Err-clause-reads
returns-in-Err-clause-reads g c = λ is. has_missed c.faults_are_of_the_bytes.ensures.kind c.in-Err.fault _ _ _ _ _ _ c.in-Err.ensures.1 (sym c.in-Err.fault-is ∙ is)

pub returns-in-Ok-None-clause-faults : goal.returns-in-Ok-None-clause-faults
returns-in-Ok-None-clause-faults g c =
    let call = rw c.in-Ok-None.field-0-is at c.in-Ok-None.ensures in
    fails_at_end _ _ _ _ c.args.left.now call.0 call.1

pub returns-in-Err-clause-faults : goal.returns-in-Err-clause-faults
returns-in-Err-clause-faults g c =
    fails_with _ _ _ _ c.args.left.now c.in-Err.ensures.0 _ c.in-Err.fault c.in-Err.fault-is c.in-Err.ensures.1
