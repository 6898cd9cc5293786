use Rattle.std.proofs.Common.{◌<◌, ◌-◌, length, arith, length-take}
use Rattle.std.proofs.lemmas.Bool.{leb-true}
use Rattle.sb_digest.proofs.Longest.{longest-all, longest-but_last, digest_frame_length-most}
use Rattle.sb_digest.proofs.Cutting.{whole_is_digest}
use Rattle.sb_digest.proofs.digest_builder.DigestBuilder.finish.Goals as goal

pub cut-requires : goal.cut-requires
cut-requires c =
    rw (← c.self.view_is) (omega (arith, digest_frame_length-most c.args.want c.self.inside.from c.self.inside.pairs.items c.self.invariant.0.bound c.self.invariant.0.pairs, c.self.invariant.1, c.self.invariant.0.least))

pub returns-then-self-clause-longest : goal.returns-then-self-clause-longest
returns-then-self-clause-longest c =
    let pairs = c.self.inside.pairs.items in
    let some : 1 < length pairs = omega (arith, digest_frame_length-most c.args.want c.self.inside.from pairs c.self.invariant.0.bound c.self.invariant.0.pairs, c.self.invariant.1, c.self.invariant.0.least) in
    rw (c.cut.ensures, ← c.self.view_is) (longest-but_last c.args.want c.self.inside.from c.self.inside.budget pairs (length pairs - 1) (omega arith) (leb-true _ _ c.self.invariant.0.room) (omega (arith, c.self.invariant.1)))

pub returns-then-self-clause-goes : goal.returns-then-self-clause-goes
returns-then-self-clause-goes c =
    let pairs = c.self.inside.pairs.items in
    let some : 1 < length pairs = omega (arith, digest_frame_length-most c.args.want c.self.inside.from pairs c.self.invariant.0.bound c.self.invariant.0.pairs, c.self.invariant.1, c.self.invariant.0.least) in
    rw (c.cut.ensures, ← c.self.view_is) (λ _. omega (arith, length-take (length pairs - 1) pairs))

pub of_parts-requires-clause-digest : goal.of_parts-requires-clause-digest
of_parts-requires-clause-digest c = whole_is_digest c.args.want _ c.self.invariant.0 (omega (arith, c.self.invariant.1))

pub returns-clause-longest : goal.returns-clause-longest
returns-clause-longest c =
    rw (c.of_parts.ensures, ← c.self.view_is) (longest-all c.args.want c.self.inside.from c.self.inside.budget c.self.inside.pairs.items (omega (arith, c.self.invariant.1)))
