use Rattle.sb_watch.proofs.Owing.{new_watches_follow}
use Rattle.sb_watch.proofs.laws.answers_account_for_notes.Goals as goal

pub returns : goal.returns
returns c = new_watches_follow
