use Rattle.sb_views.proofs.Purged.{purged-upto, purged-row}
use Rattle.sb_views.proofs.laws.purges_show_nothing.Goals as goal

pub returns-clause-upto : goal.returns-clause-upto
returns-clause-upto c = λ held floor owner is. purged-upto held floor owner

pub returns-clause-row : goal.returns-clause-row
returns-clause-row c = λ held floor owner key is. purged-row held floor owner key is
