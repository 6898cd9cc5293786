use Rattle.sb_directory_tests.proofs.serving.serve_new.Given as goal

abbrev pub ghosts-serve_one-S-Ledger : goal.ghosts-serve_one-S-Ledger
ghosts-serve_one-S-Ledger g a = record { name = a.blank.name; parts = 1 }

-- the history that was just begun, of this node
abbrev pub ghosts-serve_one-S-NodeTag : goal.ghosts-serve_one-S-NodeTag
ghosts-serve_one-S-NodeTag g a = record { opening = a.core.node; history = a.history.seen.book; seats = 1 }

abbrev pub ghosts-serve_one-S-DirectoryTag : goal.ghosts-serve_one-S-DirectoryTag
ghosts-serve_one-S-DirectoryTag g a = record { settings = a.core.settings }
