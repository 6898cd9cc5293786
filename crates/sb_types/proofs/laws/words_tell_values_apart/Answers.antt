use Rattle.sb_types.proofs.Words.{words_apart, line_cut, values_line}
use Rattle.sb_types.proofs.laws.words_tell_values_apart.Goals as goal

pub returns-clause-apart : goal.returns-clause-apart
returns-clause-apart c = words_apart

pub returns-clause-cut : goal.returns-clause-cut
returns-clause-cut c = line_cut

pub returns-clause-line : goal.returns-clause-line
returns-clause-line c = values_line
