use Rattle.sb_types.proofs.Spelling.{texts_apart, one_line}
use Rattle.sb_types.proofs.laws.spellings_tell_texts_apart.Goals as goal

pub returns-clause-apart : goal.returns-clause-apart
returns-clause-apart c = texts_apart

pub returns-clause-line : goal.returns-clause-line
returns-clause-line c = one_line
