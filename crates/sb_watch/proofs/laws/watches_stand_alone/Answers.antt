use Rattle.sb_watch.proofs.Alone.{pushed_at, answered_at, others_unasked, added_at, beside_added, dropped_away, others_left}
use Rattle.sb_watch.proofs.laws.watches_stand_alone.Goals as goal

pub returns-clause-pushed : goal.returns-clause-pushed
returns-clause-pushed c = pushed_at

pub returns-clause-taken : goal.returns-clause-taken
returns-clause-taken c = answered_at

pub returns-clause-unasked : goal.returns-clause-unasked
returns-clause-unasked c = others_unasked

pub returns-clause-added : goal.returns-clause-added
returns-clause-added c = added_at

pub returns-clause-beside : goal.returns-clause-beside
returns-clause-beside c = beside_added

pub returns-clause-dropped : goal.returns-clause-dropped
returns-clause-dropped c = dropped_away

pub returns-clause-left : goal.returns-clause-left
returns-clause-left c = others_left
