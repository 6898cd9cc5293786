use Rattle.sb_table.proofs.Lookup.{entry_at-entered_same, entry_at-entered_other}
use Rattle.sb_table.proofs.laws.what_is_entered_is_found.Goals as goal

pub returns : goal.returns
returns c = record { entered = entry_at-entered_same; others = entry_at-entered_other }
