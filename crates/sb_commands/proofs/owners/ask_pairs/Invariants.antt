use Rattle.sb_commands.proofs.owners.ask_pairs.Given as goal

abbrev pub ghosts-hear_from : goal.ghosts-hear_from
ghosts-hear_from a = record { name = a.blank.name; parts = a.blank.parts }
