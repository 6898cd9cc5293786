use Rattle.sb_views.proofs.Turning.{admits}
use Rattle.sb_views.proofs.writer.ViewWriter.reader.Goals as goal

pub reader-requires : goal.reader-requires
reader-requires g c = admits g.S.NodeTag.history g.S.NodeTag.opening
