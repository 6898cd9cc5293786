use Rattle.sb_views.proofs.ByText.{from_nothing}
use Rattle.sb_directory.proofs.lacking_owners.LackingOwners.clear.Goals as goal

pub returns : goal.returns
returns c = from_nothing c.clear.new.self.entries c.clear.ensures.empty c.clear.ensures.ordered
