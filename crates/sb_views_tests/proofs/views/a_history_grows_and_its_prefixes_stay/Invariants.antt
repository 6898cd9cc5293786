use Rattle.std.specs.Prelude.{None, []}
use Rattle.std.specs.FinMap.{empty}
use Rattle.sb_views_tests.proofs.views.a_history_grows_and_its_prefixes_stay.Given as goal

abbrev pub ghosts-add_events-S-Ledger : goal.ghosts-add_events-S-Ledger
ghosts-add_events-S-Ledger g a = record { name = 0; parts = 0 }

-- the history that was just begun
abbrev pub ghosts-add_events-S-NodeTag : goal.ghosts-add_events-S-NodeTag
ghosts-add_events-S-NodeTag g a = record { opening = record { held = record { me = []; owners = empty }; conflict = None }; history = a.new_history.seen.book; seats = 0 }
