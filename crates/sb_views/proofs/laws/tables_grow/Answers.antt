use Rattle.sb_views.proofs.Growing.{grown-none, grown-on, own-grown, delta-grown}
use Rattle.sb_views.proofs.Purged.{purged-grown}
use Rattle.sb_views.proofs.laws.tables_grow.Goals as goal

pub returns-clause-none : goal.returns-clause-none
returns-clause-none c = grown-none

pub returns-clause-own : goal.returns-clause-own
returns-clause-own c = own-grown

pub returns-clause-purged : goal.returns-clause-purged
returns-clause-purged c = purged-grown

pub returns-clause-delta : goal.returns-clause-delta
returns-clause-delta c = delta-grown

pub returns-clause-further : goal.returns-clause-further
returns-clause-further c = grown-on
