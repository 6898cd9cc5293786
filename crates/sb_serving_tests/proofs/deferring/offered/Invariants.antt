use Rattle.sb_serving_tests.proofs.deferring.offered.Given as goal

abbrev pub ghosts-serve_from-S-Ledger : goal.ghosts-serve_from-S-Ledger
ghosts-serve_from-S-Ledger g a = record { name = a.blank.name; parts = a.blank.parts }

-- the history that was just begun, of this node, with a seat for its worker
abbrev pub ghosts-serve_from-S-NodeTag : goal.ghosts-serve_from-S-NodeTag
ghosts-serve_from-S-NodeTag g a = record { opening = a.core.node; history = a.new_history.seen.book; seats = a.blank.parts }

abbrev pub ghosts-serve_from-S-DirectoryTag : goal.ghosts-serve_from-S-DirectoryTag
ghosts-serve_from-S-DirectoryTag g a = record { settings = a.core.settings }
