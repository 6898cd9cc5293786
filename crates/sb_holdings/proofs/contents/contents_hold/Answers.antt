use Rattle.sb_holdings.proofs.Content.{content_is, content_tells}
use Rattle.sb_holdings.proofs.contents.contents_hold.Goals as goal

pub returns-clause-holds : goal.returns-clause-holds
returns-clause-holds c = content_tells

pub returns-clause-is : goal.returns-clause-is
returns-clause-is c = content_is
