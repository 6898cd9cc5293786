use Rattle.std.proofs.Common.{◌≡◌, true, sym, ap, subst, ◌∙◌}
use Rattle.sb_types.specs.Records.{Holder}
use Rattle.sb_holdings.specs.Held.{is_nothing, with_owner}
use Rattle.sb_holdings.specs.Taken.{holder_after_block}
use Rattle.sb_holdings.specs.Plain.{held_of, IsHoldings}
use Rattle.sb_holdings.specs.Holders.{unnamed_block}
use Rattle.sb_holdings.proofs.Nodes.{is_nothing_is}
use Rattle.sb_holdings.proofs.ByOwner.{added, IsHoldings-added}
use Rattle.sb_holdings.proofs.Naming.{with_nothing, refused-nothing}
use Rattle.sb_holdings.proofs.holdings.Holdings.add.Goals as goal

pub returns-then-is_nothing-clause-effect : goal.returns-then-is_nothing-clause-effect
returns-then-is_nothing-clause-effect c =
    let w_is = c.take-end.ensures.effect ∙ ap (λ (h : Holder). holder_after_block h (unnamed_block c.args.floor 0 c.args.upto c.args.entries.now) c.take-end.result) c.nothing-holder.ensures.nothing in
    let none : is_nothing c.take-end.new.self ≡ true = sym c.is_nothing.ensures.nothing ∙ c.if-is_nothing.true in
    sym (with_nothing c.args.self.now c.args.owner.now c.args.floor c.args.upto c.args.entries.now c.requires.unknown (subst IsHoldings c.self.view_is c.self.invariant.1) c.requires.other)
    ∙ ap (with_owner c.args.self.now c.args.owner.now) (is_nothing_is c.take-end.new.self none ∙ w_is)

pub invariant_of-self : goal.invariant_of-self
invariant_of-self c = (
  c.insert.ensures.ordered,
  IsHoldings-added c.args.self.now c.self.inside.me c.args.owner.now c.self.inside.holders c.insert.new.self c.take-end.new.self c.self.invariant.0 c.insert.ensures.ordered c.self.view_is (sym c.is_nothing.ensures.nothing ∙ c.if-is_nothing.false) c.in-Ok.ensures.updates
      (subst IsHoldings c.self.view_is c.self.invariant.1) c.requires.other c.take-end.ensures.kept c.requires.place,
)

pub returns-in-Ok-clause-holdings : goal.returns-in-Ok-clause-holdings
returns-in-Ok-clause-holdings c = (invariant_of-self c).1

pub returns-in-Ok-clause-effect : goal.returns-in-Ok-clause-effect
returns-in-Ok-clause-effect c =
    added c.args.self.now c.self.inside.me c.args.owner.now c.self.inside.holders c.insert.new.self c.take-end.new.self c.self.invariant.0 c.insert.ensures.ordered c.self.view_is (sym c.is_nothing.ensures.nothing ∙ c.if-is_nothing.false) c.in-Ok.ensures.updates
    ∙ ap (with_owner c.args.self.now c.args.owner.now) (c.take-end.ensures.effect ∙ ap (λ (h : Holder). holder_after_block h (unnamed_block c.args.floor 0 c.args.upto c.args.entries.now) c.take-end.result) c.nothing-holder.ensures.nothing)

pub returns-clause-effect : goal.returns-clause-effect
returns-clause-effect c =
    ap (held_of c.self.inside.me) c.in-Err.ensures.err ∙ c.self.view_is
    ∙ sym (with_nothing c.args.self.now c.args.owner.now c.args.floor c.args.upto c.args.entries.now c.requires.unknown (subst IsHoldings c.self.view_is c.self.invariant.1) c.requires.other)
    ∙ ap (with_owner c.args.self.now c.args.owner.now) (sym (refused-nothing c.args.floor c.args.upto c.args.entries.now))
