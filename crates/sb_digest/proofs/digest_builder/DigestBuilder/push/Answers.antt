use Rattle.std.proofs.Common.{true, arith}
use Rattle.std.proofs.lemmas.List.Sums.{sum_by_push}
use Rattle.sb_digest.specs.Lengths.{pair_length}
use Rattle.sb_digest.proofs.Longest.{digest_frame_length-most}
use Rattle.sb_digest.proofs.Gathering.{pushed-is}
use Rattle.sb_digest.proofs.digest_builder.DigestBuilder.push.Goals as goal

-- two pairs are within each budget
pub returns-then-length-self-clause-two : goal.returns-then-length-self-clause-two
returns-then-length-self-clause-two c =
    rw (← c.self.view_is) (λ _. omega (arith, digest_frame_length-most true c.self.inside.from c.self.inside.pairs.items c.self.invariant.0.bound c.self.invariant.0.pairs, c.self.invariant.1, c.self.invariant.0.least, c.encoded_length.ensures.most))

pub invariant_of-self-2 : goal.invariant_of-self-2
invariant_of-self-2 c = (
  pushed-is _ c.args.pair _ c.self.invariant.0 c.encoded_length.ensures.pair (rw (← c.self.view_is) at c.requires) (omega (arith, c.self.invariant.1, c.encoded_length.ensures.length)) c.in_ok-push.ensures.items,
  rw c.in_ok-push.ensures.items (omega (arith, sum_by_push pair_length c.self.inside.pairs.items c.args.pair, c.self.invariant.1, c.encoded_length.ensures.length)),
)

pub returns-clause-front : goal.returns-clause-front
returns-clause-front c = pushed-is _ c.args.pair _ c.self.invariant.0 c.encoded_length.ensures.pair (rw (← c.self.view_is) at c.requires) (omega (arith, c.self.invariant.1, c.encoded_length.ensures.length)) c.in_ok-push.ensures.items
