use Rattle.sb_query.proofs.Following.{pages-follow}
use Rattle.sb_query.proofs.laws.pages_follow.Goals as goal

pub returns : goal.returns
returns c = pages-follow
