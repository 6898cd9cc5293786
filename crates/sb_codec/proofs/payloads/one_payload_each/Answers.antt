use Rattle.std.proofs.Common.{refl}
use Rattle.sb_codec.specs.Messages.{spelling}
use Rattle.sb_codec.proofs.Laws.{is_spelled, is_sole, some_bytes, is_read, is_found}
use Rattle.sb_codec.proofs.payloads.one_payload_each.Goals as goal

pub returns-clause-spelled : goal.returns-clause-spelled
returns-clause-spelled c = λ message fits. is_spelled (spelling message) message fits refl

pub returns-clause-sole : goal.returns-clause-sole
returns-clause-sole c = is_sole

pub returns-clause-least : goal.returns-clause-least
returns-clause-least c = some_bytes

pub returns-clause-read : goal.returns-clause-read
returns-clause-read c = is_read

pub returns-clause-found : goal.returns-clause-found
returns-clause-found c = is_found
