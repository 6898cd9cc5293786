use Rattle.std.proofs.Common.{refl}
use Rattle.sb_holdings.proofs.Content.{content_is, content_tells}
use Rattle.sb_audit.proofs.laws.own_tables_are_contents.Goals as goal

pub returns : goal.returns
returns c = λ writes floor l. record { table = content_is writes floor l; holds = content_tells writes floor l; all = refl }
