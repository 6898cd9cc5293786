use Rattle.std.proofs.Common.{Option, unwrap_or, sym, ap, ◌∙◌}
use Rattle.std.specs.FinMap.{get}
use Rattle.sb_types.specs.Records.{Holder}
use Rattle.sb_holdings.specs.Held.{Held, empty_holder}
use Rattle.sb_holdings.proofs.ByOwner.{get-from}
use Rattle.sb_holdings.proofs.holdings.Holdings.upto.Goals as goal

pub returns-in-Some-clause-version : goal.returns-in-Some-clause-version
returns-in-Some-clause-version c =
    let is = ap (λ (h : Held). get h.owners c.args.owner.now) (sym c.self.view_is) ∙ get-from c.self.inside.me c.self.inside.holders.entries c.self.invariant.0 c.args.owner.now ∙ sym c.in-Some.ensures.value in
    c.upto.ensures.version ∙ ap (λ t. t.held) c.shown.ensures.shown ∙ sym (ap (λ (o : Option Holder). (unwrap_or o empty_holder).shown.held) is)

pub returns-in-None-clause-version : goal.returns-in-None-clause-version
returns-in-None-clause-version c =
    let is = ap (λ (h : Held). get h.owners c.args.owner.now) (sym c.self.view_is) ∙ get-from c.self.inside.me c.self.inside.holders.entries c.self.invariant.0 c.args.owner.now ∙ sym c.in-None.ensures.value in
    sym (ap (λ (o : Option Holder). (unwrap_or o empty_holder).shown.held) is)
