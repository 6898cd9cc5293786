use Rattle.sb_frames.proofs.Splitting.{any_calls, all_taken}
use Rattle.sb_frames.proofs.laws.pieces_do_not_matter.Goals as goal

pub returns-clause-accounts : goal.returns-clause-accounts
returns-clause-accounts c = any_calls

pub returns-clause-splits : goal.returns-clause-splits
returns-clause-splits c = all_taken
