use Rattle.std.proofs.Common.{◌<◌, length, arith}
use Rattle.sb_digest.proofs.Longest.{digest_length-front}
use Rattle.sb_digest.proofs.Cutting.{front_is_digest}
use Rattle.sb_digest.proofs.digest_builder.DigestBuilder.cut.Goals as goal

pub overflow_sub-length : goal.overflow_sub-length
overflow_sub-length c =
    let some : 1 < length c.self.inside.pairs.items = rw (← c.self.view_is) at c.requires in
    omega (arith, digest_length-front c.args.want c.self.inside.from c.self.inside.pairs.items (omega arith), c.self.invariant.1)

pub of_parts-requires-clause-digest : goal.of_parts-requires-clause-digest
of_parts-requires-clause-digest c = rw (c.pop_owner-until.ensures.owner, c.pop_owner-until.ensures.rest) (front_is_digest c.args.want _ c.self.invariant.0 (rw (← c.self.view_is) at c.requires))

pub of_parts-requires-clause-length : goal.of_parts-requires-clause-length
of_parts-requires-clause-length c =
    let some : 1 < length c.self.inside.pairs.items = rw (← c.self.view_is) at c.requires in
    rw (c.pop_owner-until.ensures.owner, c.pop_owner-until.ensures.rest) (omega (arith, digest_length-front c.args.want c.self.inside.from c.self.inside.pairs.items (omega arith), c.self.invariant.1))
