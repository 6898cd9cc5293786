use Rattle.std.proofs.Common.{Some, ap, ◌∙◌}
use Rattle.std.specs.Option.{option_map}
use Rattle.sb_types.specs.Records.{Table, Holder}
use Rattle.sb_holdings.proofs.holdings.Holdings.table.Goals as goal

pub returns-in-Some-clause-found : goal.returns-in-Some-clause-found
returns-in-Some-clause-found c =
    ap (λ (t : Table). Some t) c.shown.ensures.shown ∙ ap (option_map (λ (h : Holder). h.shown)) c.in-Some.ensures.found

pub returns-in-None-clause-found : goal.returns-in-None-clause-found
returns-in-None-clause-found c = ap (option_map (λ (h : Holder). h.shown)) c.in-None.ensures.found
