use Rattle.sb_digest.proofs.Telling.{start-least, start-most, start-own}
use Rattle.sb_digest.proofs.laws.starts_are_within.Goals as goal

pub returns-clause-least : goal.returns-clause-least
returns-clause-least c = start-least

pub returns-clause-most : goal.returns-clause-most
returns-clause-most c = start-most

pub returns-clause-own : goal.returns-clause-own
returns-clause-own c = start-own
