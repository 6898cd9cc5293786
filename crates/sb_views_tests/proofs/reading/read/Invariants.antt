use Rattle.std.specs.Prelude.{None}
use Rattle.sb_views_tests.proofs.reading.read.Given as goal

abbrev pub ghosts-read_on-S-Ledger : goal.ghosts-read_on-S-Ledger
ghosts-read_on-S-Ledger g a = record { name = 0; parts = 0 }

-- the history that was just begun, of the node that holds this
abbrev pub ghosts-read_on-S-NodeTag : goal.ghosts-read_on-S-NodeTag
ghosts-read_on-S-NodeTag g a = record { opening = record { held = a.holdings.now; conflict = None }; history = a.new_history.seen.book; seats = 0 }
