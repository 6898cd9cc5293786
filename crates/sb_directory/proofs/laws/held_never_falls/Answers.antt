use Rattle.sb_directory.proofs.Rising.{history-rises}
use Rattle.sb_directory.proofs.laws.held_never_falls.Goals as goal

pub returns : goal.returns
returns c opening seen later owner begins = history-rises opening seen later owner begins
