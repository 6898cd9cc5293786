use Rattle.std.proofs.Common.{◌≡◌, true}
use Rattle.sb_watch.proofs.KeptNotes.{pushed_keeps, taken_keeps, added_keeps, dropped_keeps, given_holds, weaker_keeps}
use Rattle.sb_watch.proofs.laws.notes_keep_what_holds.Goals as goal

pub returns-clause-pushed : goal.returns-clause-pushed
returns-clause-pushed c test = pushed_keeps (λ note. test note ≡ true)

pub returns-clause-taken : goal.returns-clause-taken
returns-clause-taken c test = taken_keeps (λ note. test note ≡ true)

pub returns-clause-added : goal.returns-clause-added
returns-clause-added c test = added_keeps (λ note. test note ≡ true)

pub returns-clause-dropped : goal.returns-clause-dropped
returns-clause-dropped c test = dropped_keeps (λ note. test note ≡ true)

pub returns-clause-given : goal.returns-clause-given
returns-clause-given c test = given_holds (λ note. test note ≡ true)

pub returns-clause-weaker : goal.returns-clause-weaker
returns-clause-weaker c test other = weaker_keeps (λ note. test note ≡ true) (λ note. other note ≡ true)
