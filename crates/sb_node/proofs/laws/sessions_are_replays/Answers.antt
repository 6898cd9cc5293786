use Rattle.sb_node.proofs.Sessions.{taken, refused, asked, replied, ended}
use Rattle.sb_node.proofs.laws.sessions_are_replays.Goals as goal

pub returns-clause-taken : goal.returns-clause-taken
returns-clause-taken c = taken

pub returns-clause-refused : goal.returns-clause-refused
returns-clause-refused c = refused

pub returns-clause-asked : goal.returns-clause-asked
returns-clause-asked c = asked

pub returns-clause-replies : goal.returns-clause-replies
returns-clause-replies c = replied

pub returns-clause-ends : goal.returns-clause-ends
returns-clause-ends c = ended
