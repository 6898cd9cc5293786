use Rattle.sb_views.proofs.Turning.{enters}
use Rattle.sb_views.proofs.reader.Reader.enter.Goals as goal

pub enter_as-requires : goal.enter_as-requires
enter_as-requires g c x = enters g.S.NodeTag.history g.S.NodeTag.opening _ _ x
