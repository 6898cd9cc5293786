use Rattle.sb_digest.proofs.Telling.{number-held, number-above, floor-under}
use Rattle.sb_digest.proofs.laws.digests_are_true.Goals as goal

pub returns-clause-held : goal.returns-clause-held
returns-clause-held c = number-held

pub returns-clause-number : goal.returns-clause-number
returns-clause-number c held budget want from d owner floor upto longest covered = number-above held budget want from d owner longest covered floor upto

pub returns-clause-floor : goal.returns-clause-floor
returns-clause-floor c held budget want from d owner floor upto longest covered = floor-under held budget want from d owner longest covered floor upto
