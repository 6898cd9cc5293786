use Rattle.std.proofs.Common.{refl}
use Rattle.sb_codec.specs.Messages.{spelling}
use Rattle.sb_codec.proofs.Laws.{is_spelled, is_sole}
use Rattle.sb_codec.proofs.encode.append_payload.Goals as goal

pub returns-in-Ok-clause-found : goal.returns-in-Ok-clause-found
returns-in-Ok-clause-found c = is_spelled (spelling c.args.message.now) c.args.message.now c.in-Ok.ensures.limits refl

pub returns-in-Ok-clause-sole : goal.returns-in-Ok-clause-sole
returns-in-Ok-clause-sole c = is_sole (spelling c.args.message.now) c.args.message.now (is_spelled (spelling c.args.message.now) c.args.message.now c.in-Ok.ensures.limits refl)
