use Rattle.sb_table.proofs.Lookup.{Stands-entry_at, key-entry_at, entry_at-stands, entry_at-none}
use Rattle.sb_table.proofs.laws.what_stands_is_found.Goals as goal

pub returns : goal.returns
returns c = record { stands = Stands-entry_at; key = key-entry_at; found = entry_at-stands; none = entry_at-none }
