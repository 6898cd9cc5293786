use Rattle.std.proofs.Common.{refl}
use Rattle.sb_audit.proofs.Passing.{known_shown, passes_shown}
use Rattle.sb_audit.proofs.laws.what_passes_is_shown.Goals as goal

pub returns-clause-range : goal.returns-clause-range
returns-clause-range c = λ t b own is block clean whole s above within. known_shown t b own.key is block clean whole own s refl above within

pub returns-clause-whole : goal.returns-clause-whole
returns-clause-whole c = passes_shown
