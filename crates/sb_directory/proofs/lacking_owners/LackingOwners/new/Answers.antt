use Rattle.sb_views.proofs.ByText.{from_nothing}
use Rattle.sb_directory.proofs.lacking_owners.LackingOwners.new.Goals as goal

pub returns : goal.returns
returns c = from_nothing c.new.result.entries c.new.ensures.empty c.new.ensures.ordered
