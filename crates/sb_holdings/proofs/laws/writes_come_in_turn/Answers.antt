use Rattle.sb_holdings.proofs.Changed.{written-unfit}
use Rattle.sb_holdings.proofs.laws.writes_come_in_turn.Goals as goal

pub returns : goal.returns
returns c = written-unfit
