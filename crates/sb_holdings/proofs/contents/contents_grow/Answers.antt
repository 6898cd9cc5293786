use Rattle.sb_holdings.proofs.Growing.{content-grown_from, written-grown}
use Rattle.sb_holdings.proofs.contents.contents_grow.Goals as goal

pub returns : goal.returns
returns c = record { table = content-grown_from; written = written-grown }
