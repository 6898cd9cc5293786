use Rattle.sb_commands.proofs.asking.answer_over.Given as goal

abbrev pub ghosts-request_answer : goal.ghosts-request_answer
ghosts-request_answer a = record { name = a.blank.name; parts = a.blank.parts }
