use Rattle.sb_serving_tests.proofs.desk.play_at_new.Given as goal

abbrev pub ghosts-play_at-S-Ledger : goal.ghosts-play_at-S-Ledger
ghosts-play_at-S-Ledger g a = record { name = a.blank.name; parts = a.blank.parts }

-- the history that was just begun, of this node, with one seat
abbrev pub ghosts-play_at-S-NodeTag : goal.ghosts-play_at-S-NodeTag
ghosts-play_at-S-NodeTag g a = record { opening = a.core.node; history = a.new_history.seen.book; seats = 1 }

abbrev pub ghosts-play_at-S-DirectoryTag : goal.ghosts-play_at-S-DirectoryTag
ghosts-play_at-S-DirectoryTag g a = record { settings = a.core.settings }
