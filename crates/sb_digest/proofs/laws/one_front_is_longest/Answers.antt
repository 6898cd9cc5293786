use Rattle.sb_digest.proofs.Telling.{one_longest}
use Rattle.sb_digest.proofs.laws.one_front_is_longest.Goals as goal

pub returns : goal.returns
returns c = one_longest
