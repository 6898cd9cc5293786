use Rattle.std.proofs.Common.{sym, ap, ◌∙◌}
use Rattle.std.specs.FinMap.{get}
use Rattle.sb_holdings.specs.Held.{Held}
use Rattle.sb_holdings.proofs.ByOwner.{get-from}
use Rattle.sb_holdings.proofs.holdings.Holdings.holder.Goals as goal

pub returns-clause-found : goal.returns-clause-found
returns-clause-found c =
    c.get.ensures.value ∙ sym (get-from c.self.inside.me c.self.inside.holders.entries c.self.invariant.0 c.args.owner.now) ∙ ap (λ (h : Held). get h.owners c.args.owner.now) c.self.view_is
