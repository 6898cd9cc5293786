use Rattle.sb_views.proofs.Rising.{ascending}
use Rattle.sb_views.proofs.laws.rows_ascend.Goals as goal

pub returns : goal.returns
returns c = ascending
