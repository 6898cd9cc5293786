use Rattle.sb_views.proofs.laws.views_show_what_is_held.Goals as goal

pub returns-clause-upto : goal.returns-clause-upto
returns-clause-upto c = λ node view owner is. is.upto owner

pub returns-clause-row : goal.returns-clause-row
returns-clause-row c = λ node view owner key is. is.row owner key
