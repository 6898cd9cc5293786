use Rattle.std.proofs.Common.{◌≡◌, ℕ, ◌+◌, List, ◌∷◌, drop, sym, ap, subst, ◌∙◌}
use Rattle.std.proofs.lemmas.List.{drop_more, drop_all}
use Rattle.sb_types.specs.Records.{Block}
use Rattle.sb_directory.specs.Lacking.{since_of, with_owner, AreSince}
use Rattle.sb_directory.proofs.Lacking.{IsAdding, adding-goes_on, adding-ends}
use Rattle.sb_directory.proofs.lacking_owners.LackingOwners.add_owners.Goals as goal

pub returns-in_err-add-clause-since : goal.returns-in_err-add-clause-since
returns-in_err-add-clause-since c old since =
    subst (AreSince old c.args.holdings.now) (sym c.in_err-add.ensures.err) (c.loop-block.invariant.since old since)

pub loop-block-preserved : goal.loop-block-preserved
loop-block-preserved c =
    let held = c.args.holdings.now in
    let b = c.block-item.result in
    let owner : c.owner-owner.result.now ≡ b.owner = c.owner-owner.ensures.owner in
    let step : c.add.new.self ≡ with_owner c.loop-block.self b.owner (since_of held b.owner) =
    c.in_ok-add.ensures.ok ∙ (λ i. with_owner c.loop-block.self c.owner-owner.result.now (c.upto.ensures.version i, c.floor.ensures.floor i))
    ∙ ap (λ (o : List ℕ). with_owner c.loop-block.self o (since_of held o)) owner in
    let blocks = c.args.blocks.now in
    let i = c.loop-block.block-index in
    let left : IsAdding held blocks c.args.self.now c.loop-block.self (b ∷ drop (i + 1) blocks) =
    subst (IsAdding held blocks c.args.self.now c.loop-block.self) (drop_more blocks i _ c.loop-block-test.true ∙ ap (λ (x : Block). x ∷ drop (i + 1) blocks) (sym c.block-item.is)) c.loop-block.invariant in
    adding-goes_on held blocks c.args.self.now c.loop-block.self c.add.new.self b (drop (i + 1) blocks) left step

pub returns-clause-owners : goal.returns-clause-owners
returns-clause-owners c =
    let i = c.loop-block.block-index in
    let blocks = c.args.blocks.now in
    adding-ends c.args.holdings.now blocks c.args.self.now c.loop-block.self (drop i blocks) (drop_all i blocks c.loop-block-test.false) c.loop-block.invariant
