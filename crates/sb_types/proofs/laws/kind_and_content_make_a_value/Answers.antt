use Rattle.sb_types.proofs.KindTable.{tag_again, tag_found, tag_not_removed, form_again, words_by_table, length_by_table, value_again, value_parts}
use Rattle.sb_types.proofs.laws.kind_and_content_make_a_value.Goals as goal

pub returns-clause-tag : goal.returns-clause-tag
returns-clause-tag c = tag_again

pub returns-clause-tagged : goal.returns-clause-tagged
returns-clause-tagged c = tag_found

pub returns-clause-not_removed : goal.returns-clause-not_removed
returns-clause-not_removed c = tag_not_removed

pub returns-clause-form : goal.returns-clause-form
returns-clause-form c = form_again

pub returns-clause-words : goal.returns-clause-words
returns-clause-words c = words_by_table

pub returns-clause-length : goal.returns-clause-length
returns-clause-length c = length_by_table

pub returns-clause-again : goal.returns-clause-again
returns-clause-again c = value_again

pub returns-clause-parts : goal.returns-clause-parts
returns-clause-parts c = λ kind content value e. let p = value_parts kind content value e in (p.0.0, p.0.1, p.1)
