use Rattle.std.proofs.Common.{◌≡◌, arith, ap, sym, subst, ◌∙◌, false}
use Rattle.sb_types.specs.Records.{Table}
use Rattle.sb_digest.specs.Digests.{Pair, staged_pair}
use Rattle.sb_digest.specs.Builders.{with_pair, has_room}
use Rattle.sb_digest.specs.Pairs.{pair_of}
use Rattle.sb_digest.proofs.Gathering.{next-comes, cut-longest}
use Rattle.sb_digest.proofs.digest_building.build.Goals as goal

pub push-requires : goal.push-requires
push-requires c =
    let items = c.holders_from-owner-items.ensures in
    let told : c.new-pair.result ≡ pair_of (c.in-Some.owner.now, c.in-Some.holder.now) =
    c.new-pair.ensures ∙ (λ i. staged_pair c.in-Some.owner.now ((c.upto.ensures.version ∙ ap (λ (t : Table). t.held) c.shown.ensures.shown) i) (c.staged.ensures.staged i)) in
    rw told
    (next-comes c.args.from c.args.holdings.now c.loop-owner.front (c.in-Some.owner.now, c.in-Some.holder.now) c.next.new.self c.loop-owner.invariant.from
    (rw c.in-Some.ensures.steps at c.loop-owner.invariant.pairs)
    (rw (items.holders, c.as_ref-2.ensures.value) at items.ascending))

-- the pair that found no room ends the range
pub returns-then-not-branch-clause-longest : goal.returns-then-not-branch-clause-longest
returns-then-not-branch-clause-longest c =
    let told : c.new-pair.result ≡ pair_of (c.in-Some.owner.now, c.in-Some.holder.now) =
    c.new-pair.ensures ∙ (λ i. staged_pair c.in-Some.owner.now ((c.upto.ensures.version ∙ ap (λ (t : Table). t.held) c.shown.ensures.shown) i) (c.staged.ensures.staged i)) in
    let pushed = c.in_ok-push.ensures in
    let stays : c.push.new.self ≡ c.loop-owner.front = rw c.if-not-branch.true at pushed.ok in
    let full : has_room (with_pair c.loop-owner.front c.new-pair.result) ≡ false = sym pushed.room ∙ c.if-not-branch.true in
    rw (c.cut.ensures, stays) (cut-longest c.args.from c.args.holdings.now c.loop-owner.front (c.in-Some.owner.now, c.in-Some.holder.now) c.next.new.self c.loop-owner.invariant.from
    (rw c.in-Some.ensures.steps at c.loop-owner.invariant.pairs)
    c.args.want c.args.budget c.loop-owner.invariant.budget c.loop-owner.invariant.front (let some = pushed.two c.if-not-branch.true in omega arith)
    (subst (λ (p : Pair). has_room (with_pair c.loop-owner.front p) ≡ false) told full))
