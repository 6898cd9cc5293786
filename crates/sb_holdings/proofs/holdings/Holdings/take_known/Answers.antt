use Rattle.std.proofs.Common.{◌≡◌, ℕ, List, true, false, Option, Some, is_some, unwrap_or, nat_eq, sym, ap, subst, ◌∙◌, MutBor}
use Rattle.std.specs.Option.{option_copied_mut}
use Rattle.std.specs.FinMap.{contains_key}
use Rattle.std.specs.Cmp.Lexicographic.{pointwise}
use Rattle.sb_types.specs.Records.{Holder}
use Rattle.sb_holdings.specs.Held.{Held, empty_holder, holder_of, with_owner}
use Rattle.sb_holdings.specs.Taken.{holder_after_block}
use Rattle.sb_holdings.specs.Plain.{held_of, IsHoldings}
use Rattle.sb_holdings.specs.Holders.{unnamed_block, FitsHolder}
use Rattle.sb_holdings.proofs.ByOwner.{is_some-map, found, get-from, held_of-with, IsHoldings-put, lent-dropped, has_place-known}
use Rattle.sb_holdings.proofs.holdings.Holdings.take_known.Goals as goal

pub unwrap-holder-requires : goal.unwrap-holder-requires
unwrap-holder-requires c =
    let known : is_some (found c.self.inside.holders.entries c.args.owner.now) ≡ true =
    sym (ap is_some (get-from c.self.inside.me c.self.inside.holders.entries c.self.invariant.0 c.args.owner.now)) ∙ ap (λ (h : Held). contains_key h.owners c.args.owner.now) c.self.view_is ∙ c.requires.known in
    sym (is_some-map (λ (x : MutBor Holder). x.now) c.get_mut.result) ∙ ap is_some c.get_mut.ensures.value ∙ known

module _ (c : goal.After-drop_if) where
  abbrev t : Holder
  t = c.unwrap-holder.result.now

  abbrev w : Holder
  w = c.take-end.new.self

  abbrev owner : List ℕ
  owner = c.args.owner.now

  abbrev before : Held
  before = held_of c.self.inside.me c.self.inside.holders.entries

  at : found c.self.inside.holders.entries owner ≡ Some t
  at = sym c.get_mut.ensures.value ∙ ap option_copied_mut c.unwrap-holder.ensures

  lent : held_of c.self.inside.me c.drop_if.new.holders.entries ≡ with_owner before owner w
  lent = held_of-with c.self.inside.me owner w c.self.inside.holders.entries c.drop_if.new.holders.entries c.self.invariant.0 c.drop_if.ensures.ordered
      (lent-dropped owner c.self.inside.holders (c.get_mut.follows.lender w) c.drop_if.new.holders t w c.is_nothing-gone.result at (c.get_mut.follows.holds w) c.is_nothing-gone.ensures.nothing c.drop_if.ensures.dropped)

  lent-is : holder_of c.args.self.now.owners owner ≡ t
  lent-is = ap (λ (h : Held). holder_of h.owners owner) (sym c.self.view_is) ∙ ap (λ (o : Option Holder). unwrap_or o empty_holder) (get-from c.self.inside.me c.self.inside.holders.entries c.self.invariant.0 owner ∙ at)

  other : pointwise nat_eq owner c.self.inside.me ≡ false
  other = ap (λ (h : Held). pointwise nat_eq owner h.me) c.self.view_is ∙ c.requires.other

  known : contains_key before.owners owner ≡ true
  known = ap (λ (h : Held). contains_key h.owners owner) c.self.view_is ∙ c.requires.known

  kept : IsHoldings (held_of c.self.inside.me c.drop_if.new.holders.entries)
  kept = subst IsHoldings (sym lent) (IsHoldings-put before owner w c.self.invariant.1 other c.take-end.ensures.kept (has_place-known before owner known))

pub returns-clause-end : goal.returns-clause-end
returns-clause-end c =
    subst (λ (h : Holder). FitsHolder h (unnamed_block c.args.floor c.args.after c.args.upto c.args.entries.now) c.take-end.result) (sym (lent-is c)) c.take-end.ensures.end

pub returns-clause-effect : goal.returns-clause-effect
returns-clause-effect c =
    lent c ∙ ap (λ (h : Held). with_owner h (owner c) (w c)) c.self.view_is ∙ ap (with_owner c.args.self.now (owner c)) c.take-end.ensures.effect
    ∙ ap (λ (h : Holder). with_owner c.args.self.now (owner c) (holder_after_block h (unnamed_block c.args.floor c.args.after c.args.upto c.args.entries.now) c.take-end.result)) (sym (lent-is c))

pub invariant_of-self : goal.invariant_of-self
invariant_of-self c = (c.drop_if.ensures.ordered, kept c)

pub returns-clause-holdings : goal.returns-clause-holdings
returns-clause-holdings c = kept c
