use Rattle.std.proofs.Common.{Option, unwrap_or, sym, ap, ◌∙◌}
use Rattle.std.specs.Option.{option_map}
use Rattle.std.specs.FinMap.{get}
use Rattle.sb_types.specs.Records.{Stage, Holder}
use Rattle.sb_holdings.specs.Held.{Held, empty_holder}
use Rattle.sb_holdings.proofs.ByOwner.{get-from}
use Rattle.sb_holdings.proofs.holdings.Holdings.staged.Goals as goal

pub returns-in-Some-clause-staged : goal.returns-in-Some-clause-staged
returns-in-Some-clause-staged c =
    let is = ap (λ (h : Held). get h.owners c.args.owner.now) (sym c.self.view_is) ∙ get-from c.self.inside.me c.self.inside.holders.entries c.self.invariant.0 c.args.owner.now ∙ sym c.in-Some.ensures.value in
    c.staged.ensures.staged ∙ sym (ap (λ (o : Option Holder). option_map (λ (s : Stage). (s.floor, s.progress)) (unwrap_or o empty_holder).stage) is)

pub returns-in-None-clause-staged : goal.returns-in-None-clause-staged
returns-in-None-clause-staged c =
    let is = ap (λ (h : Held). get h.owners c.args.owner.now) (sym c.self.view_is) ∙ get-from c.self.inside.me c.self.inside.holders.entries c.self.invariant.0 c.args.owner.now ∙ sym c.in-None.ensures.value in
    sym (ap (λ (o : Option Holder). option_map (λ (s : Stage). (s.floor, s.progress)) (unwrap_or o empty_holder).stage) is)
