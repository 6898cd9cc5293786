use Rattle.std.proofs.Common.{rules}
use Rattle.sb_handlers.proofs.Deferring.{defers_rest, defers_later}
use Rattle.sb_handlers.proofs.vain_offers.DeferringHandler.deferring_deltas.Goals as goal

pub returns-then-not-is_any_new-clause-defers : goal.returns-then-not-is_any_new-clause-defers
returns-then-not-is_any_new-clause-defers g c =
    defers_rest g.H.Handler.step c.args.self.now.offers.all.items c.args.theirs.now c.least_times-least.result c.args.self.now.inner
    c.deltas_above_or_all.new.self.inner c.deltas_above_or_all.result (search rules) (search rules) c.deltas_above_or_all.ensures.tries

pub returns-in-Ok-None-clause-defers : goal.returns-in-Ok-None-clause-defers
returns-in-Ok-None-clause-defers g c =
    defers_later g.H.Handler.step c.args.self.now.offers.all.items c.args.theirs.now c.least_times-least.result c.args.self.now.inner
    c.deltas_above.new.self.inner c.deltas_above_or_all-in-Ok-None.new.self.inner c.deltas_above_or_all-in-Ok-None.result
    c.deltas_above.new.self.offers.all.items (search rules) (search rules) c.deltas_above.ensures.offers (search rules)
    c.deltas_above_or_all-in-Ok-None.ensures.tries
