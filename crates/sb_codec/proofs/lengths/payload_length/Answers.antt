use Rattle.std.proofs.Common.{refl, sym, ◌∙◌}
use Rattle.sb_codec.specs.Spelling.{number}
use Rattle.sb_codec.specs.Messages.{spelling}
use Rattle.sb_codec.proofs.Sizes.{digest-spelled, delta-spelled, page-spelled, status-spelled, ages-spelled}
use Rattle.sb_codec.proofs.lengths.payload_length.Goals as goal

pub returns-in-Digest-clause-length : goal.returns-in-Digest-clause-length
returns-in-Digest-clause-length c = rw c.in-Digest.is (c.encoded_length.ensures.length ∙ sym (digest-spelled c.in-Digest.digest))

pub returns-in-Delta-clause-length : goal.returns-in-Delta-clause-length
returns-in-Delta-clause-length c = rw c.in-Delta.is (c.encoded_length-in-Delta.ensures.length ∙ sym (delta-spelled c.in-Delta.delta))

pub returns-in-Rows-clause-length : goal.returns-in-Rows-clause-length
returns-in-Rows-clause-length c = rw c.in-Rows.is (c.encoded_length-in-Rows.ensures.length ∙ sym (page-spelled c.in-Rows.rows))

pub returns-in-Done-clause-length : goal.returns-in-Done-clause-length
unfolding spelling number
returns-in-Done-clause-length c = rw c.in-Done.is refl

pub returns-in-Bye-clause-length : goal.returns-in-Bye-clause-length
unfolding spelling
returns-in-Bye-clause-length c = rw c.in-Bye.is refl

pub returns-in-Refused-clause-length : goal.returns-in-Refused-clause-length
unfolding spelling
returns-in-Refused-clause-length c = rw c.in-Refused.is refl

pub returns-in-AskStatus-clause-length : goal.returns-in-AskStatus-clause-length
unfolding spelling number
returns-in-AskStatus-clause-length c = rw c.in-AskStatus.is refl

pub returns-in-NodeStatus-clause-length : goal.returns-in-NodeStatus-clause-length
returns-in-NodeStatus-clause-length c = rw c.in-NodeStatus.is (c.encoded_length-in-NodeStatus.ensures.length ∙ sym (status-spelled c.in-NodeStatus.status))

pub returns-in-Notice-clause-length : goal.returns-in-Notice-clause-length
unfolding spelling
returns-in-Notice-clause-length c = rw c.in-Notice.is refl

pub returns-in-AskAges-clause-length : goal.returns-in-AskAges-clause-length
unfolding spelling
returns-in-AskAges-clause-length c = rw c.in-AskAges.is refl

pub returns-in-Ages-clause-length : goal.returns-in-Ages-clause-length
returns-in-Ages-clause-length c = rw c.in-Ages.is (c.encoded_length-in-Ages.ensures.length ∙ sym (ages-spelled c.in-Ages.ages))
