use Rattle.sb_holdings.proofs.Growing.{content-purged}
use Rattle.sb_holdings.proofs.contents.contents_purge.Goals as goal

pub returns : goal.returns
returns c = content-purged
