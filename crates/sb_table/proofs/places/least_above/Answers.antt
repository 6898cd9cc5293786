use Rattle.std.proofs.Common.{arith}
use Rattle.sb_table.proofs.Ascent.{upto_least}
use Rattle.sb_table.proofs.places.least_above.Goals as goal

pub returns-clause-upto : goal.returns-clause-upto
returns-clause-upto c =
    upto_least c.args.version c.saturating_sub.result c.args.entries.now c.requires (omega (arith, c.saturating_sub.ensures, c.saturating_sub-later.ensures, c.last_version_of.ensures))
