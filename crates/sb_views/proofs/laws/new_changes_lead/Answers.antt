use Rattle.sb_views.proofs.Following.{new-leads}
use Rattle.sb_views.proofs.laws.new_changes_lead.Goals as goal

pub returns : goal.returns
returns c = new-leads
