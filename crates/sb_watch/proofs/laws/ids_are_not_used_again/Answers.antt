use Rattle.sb_watch.proofs.Alone.{gone_for_good}
use Rattle.sb_watch.proofs.laws.ids_are_not_used_again.Goals as goal

pub returns : goal.returns
returns c = gone_for_good
