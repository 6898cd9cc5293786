use Rattle.std.proofs.Common.{arith, subst}
use Rattle.sb_types.specs.Faults.{Gives}
use Rattle.sb_codec.proofs.Laws.{if_found, if_sole, is_read}
use Rattle.sb_codec.proofs.decode.decode_payload.Goals as goal

pub returns-clause-found : goal.returns-clause-found
returns-clause-found c = if_found c.args.payload.now c.read.result (λ i. omega (arith, c.type_inv.payload i)) c.read.ensures.exact

pub returns-clause-sole : goal.returns-clause-sole
returns-clause-sole c = if_sole c.args.payload.now c.read.result (λ i. omega (arith, c.type_inv.payload i)) c.read.ensures.exact

pub returns-clause-only : goal.returns-clause-only
returns-clause-only c = λ message spells. subst (λ want. Gives c.read.result want) (is_read c.args.payload.now message spells) c.read.ensures.exact
