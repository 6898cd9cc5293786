use Rattle.std.proofs.Common.{rules}
use Rattle.sb_handlers.proofs.Deferring.{tried}
use Rattle.sb_handlers.proofs.vain_offers.DeferringHandler.deltas_above.Goals as goal

pub returns-clause-tries : goal.returns-clause-tries
returns-clause-tries g c =
    tried g.H.Handler.step c.args.self.now.offers.all.items c.args.theirs.now c.args.times c.args.self.now.inner c.deltas.new.self c.in-Some.others
    c.in-Ok.delta c.unless_empty.result (search rules) (search rules) c.unless_empty.ensures
