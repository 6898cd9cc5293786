use Rattle.sb_digest.proofs.Longest.{few_pairs}
use Rattle.sb_digest.proofs.laws.digests_have_few_pairs.Goals as goal

pub returns : goal.returns
returns c = few_pairs
