use Rattle.sb_views.proofs.Leading.{own-leads}
use Rattle.sb_views.proofs.laws.own_writes_lead.Goals as goal

pub returns : goal.returns
returns c = own-leads
