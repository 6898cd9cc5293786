use Rattle.std.specs.Prelude.{None}
use Rattle.sb_views_tests.proofs.floors.publish_anew.Given as goal

abbrev pub ghosts-publish_first-S-Ledger : goal.ghosts-publish_first-S-Ledger
ghosts-publish_first-S-Ledger g a = record { name = 0; parts = 0 }

-- the history that was just begun, of the node that holds this
abbrev pub ghosts-publish_first-S-NodeTag : goal.ghosts-publish_first-S-NodeTag
ghosts-publish_first-S-NodeTag g a = record { opening = record { held = a.holdings.now; conflict = None }; history = a.new_history.seen.book; seats = 0 }
