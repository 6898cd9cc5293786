use Rattle.sb_codec.proofs.Sizes.{digest-spelled, delta-spelled, page-spelled, status-spelled, ages-spelled}
use Rattle.sb_codec.proofs.payloads.payloads_have_these_lengths.Goals as goal

pub returns-clause-delta : goal.returns-clause-delta
returns-clause-delta c = delta-spelled

pub returns-clause-digest : goal.returns-clause-digest
returns-clause-digest c = digest-spelled

pub returns-clause-page : goal.returns-clause-page
returns-clause-page c = page-spelled

pub returns-clause-status : goal.returns-clause-status
returns-clause-status c = status-spelled

pub returns-clause-ages : goal.returns-clause-ages
returns-clause-ages c = ages-spelled
